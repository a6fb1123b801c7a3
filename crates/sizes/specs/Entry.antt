-- The entries of a type, as the lent words say them; each is from 0 to 255 (document 01, "Sizes").
use Rattle.std.specs.Prelude.{Bool, not, List, ℕ, ℤ, pos, get_or, ◌<ℤ◌}
use Rattle.std.specs.Int.Signed.{lt_z}

abbrev pub entry_of : ℕ → ℤ
entry_of word = pos word

-- refusal 5: a type entry above 255
abbrev pub EntryOutside : ℕ → Type 0
EntryOutside word = pos 255 <ℤ entry_of word

-- the same as a test that computes: an entry that is admitted
unfoldable pub is_entry : ℕ → Bool
is_entry word = not (lt_z (pos 255) (entry_of word))

-- entry i of the type
abbrev pub type_of : List ℕ → ℕ → ℤ
type_of d i = entry_of (get_or d i 0)
