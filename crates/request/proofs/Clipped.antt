-- The part of a list between two places, cut where the list ends.
use mathlib.Core.Path.{◌≡◌, sym, ap, ◌∙◌}
use mathlib.Core.List.{List, []}
use Prim.Native.Nat.{ℕ, ◌-◌, ◌≤◌}
use native.Mathlib.Decide.{dec_lt}
use native.Mathlib.Omega.{arith}
use lib.ListN.{length, take, drop, length-drop, drop_of_length-le}
use lib.Seq.{take_all, take-nil}

-- places that leave nothing
none : (l : List ℕ) (from to : ℕ) → to ≤ from → take (to - from) (drop from l) ≡ []
none l from to h = let e : to - from ≡ 0 = omega arith in rw e

nothing_there : (l : List ℕ) (from k : ℕ) → length l ≤ from → take k (drop from l) ≡ []
nothing_there l from k h = ap (take k) (drop_of_length-le l h) ∙ take-nil k

-- past the end it makes no difference how far
all_there : (l : List ℕ) (from to : ℕ) → length l ≤ to → take (to - from) (drop from l) ≡ drop from l
all_there l from to h = take_all (to - from) (drop from l) (omega (arith, length-drop from l))

pub clipped : (l : List ℕ) (from to start end : ℕ) → (to ≤ length l → end ≡ to) → (length l ≤ to → end ≡ length l) → (from ≤ end → start ≡ from)
    → (end ≤ from → start ≡ end) → take (end - start) (drop start l) ≡ take (to - from) (drop from l)
clipped l from to start end inside past above below = elim (dec_lt (length l) to) [
  | yes p ↦ elim (dec_lt end from) [
    | yes f ↦ none l start end (omega (arith, below (omega arith))) ∙ sym (nothing_there l from (to - from) (omega (arith, past (omega arith))))
    | no f ↦ rw (above (omega arith)) (all_there l from end (omega (arith, past (omega arith))) ∙ sym (all_there l from to (omega arith)))
  ]
  | no p ↦ elim (dec_lt end from) [
    | yes f ↦ none l start end (omega (arith, below (omega arith))) ∙ sym (none l from to (omega (arith, inside (omega arith))))
    | no f ↦ rw (above (omega arith), inside (omega arith))
  ]
]
