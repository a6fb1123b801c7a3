-- Cut: a word of a request is cut at its commas, and a piece at its first sign.
use Rattle.std.specs.Prelude.{List, ℕ, ◌==◌}
use Rattle.std.specs.List.{slice_split}

-- "%", "*" and ","
abbrev pub percent : ℕ
percent = 37

abbrev pub star : ℕ
star = 42

abbrev pub comma : ℕ
comma = 44

-- the pieces of a word: one more than it has commas
unfoldable pub pieces : List ℕ → List (List ℕ)
pieces w = slice_split (λ b. b == comma) w
