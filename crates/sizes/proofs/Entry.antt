-- A type word says an entry that is not admitted exactly where it is above 255.
use mathlib.Core.Path.{◌≡◌}
use mathlib.Core.Logic.{◌↔◌}
use mathlib.Core.List.{List}
use Prim.Native.Nat.{ℕ, ◌≤◌, ◌<◌}
use native.Mathlib.Decide.{dec_lt}
use native.Mathlib.Omega.{arith}
use borrow.Author.Tests.{lt-ltb, le-ltb}
use lib.Dec.{ltb, ltb→lt, lt→ltb}
use lib.ListN.{get_or}
use Rattle.words.specs.Some.{Some}
use Rattle.words.proofs.Within.{below}
use Rattle.sizes.specs.Entry.{EntryOutside, is_entry}

pub outside_above : (word : ℕ) → EntryOutside word → 255 < word
outside_above word h = ltb→lt 255 word h.lt

pub above_outside : (word : ℕ) → 255 < word → EntryOutside word
above_outside word h = record { lt = lt→ltb 255 word h }

pub some_outside : (d : List ℕ) → Some (λ x. 256 ≤ x) d ↔ Some EntryOutside d
some_outside d = (
  λ h. (h.0, h.1, above_outside (get_or d h.0 0) h.2),
  λ h. (h.0, h.1, outside_above (get_or d h.0 0) h.2),
)

-- past its end a list gives zero, which is admitted
pub entries_inside : (d : List ℕ) → ¬ (Some EntryOutside d) → (i : ℕ) → get_or d i 0 ≤ 255
entries_inside d none i = omega (arith, below 256 d (omega arith) (λ h. none ((some_outside d).0 h)) i)

pub none_outside : (d : List ℕ) → ((i : ℕ) → get_or d i 0 ≤ 255) → ¬ (Some EntryOutside d)
none_outside d small h = omega (arith, outside_above (get_or d h.0 0) h.2, small h.0)

pub entry_test : (word : ℕ) → is_entry word ≡ ltb word 256
unfolding is_entry
entry_test word = elim (dec_lt word 256) [
  | yes h ↦ let l : word ≤ 255 = omega arith in rw (le-ltb 255 word l, lt-ltb word 256 h)
  | no h ↦ let l : 256 ≤ word = omega arith in rw (lt-ltb 255 word l, le-ltb word 256 l)
]
