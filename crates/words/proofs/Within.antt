-- Words below a bound: parts of them, and words of which none is at least the bound.
use mathlib.Core.Path.{◌≡◌}
use mathlib.Core.List.{List}
use Prim.Native.Nat.{ℕ, ◌+◌, ◌*◌, ◌≤◌, ◌<◌}
use native.Mathlib.Decide.{dec_lt}
use native.Mathlib.Omega.{arith}
use lib.ListN.{length, get_or, take, drop, length-take, get_or-eq_default}
use lib.Seq.{get_or-take, get_or-drop}
use Rattle.words.specs.Part.{part}
use Rattle.words.specs.Some.{Some}
use Rattle.words.specs.Within.{Within}

pub within_take : (b n : ℕ) (l : List ℕ) → Within b l → Within b (take n l)
within_take b n l h i = elim (dec_lt i n) [
  | yes y ↦ rw (get_or-take n l i 0 y) (h i)
  | no y ↦ rw (get_or-eq_default (take n l) 0 {n = i} (omega (arith, length-take n l))) (omega (arith, h i))
]

pub within_drop : (b n : ℕ) (l : List ℕ) → Within b l → Within b (drop n l)
within_drop b n l h i = rw (get_or-drop n l i 0) (h (n + i))

pub within_part : (b w k : ℕ) (l : List ℕ) → Within b l → Within b (part w k l)
unfolding part
within_part b w k l h = within_take b w (drop (k * w) l) (within_drop b (k * w) l h)

pub below : (b : ℕ) (l : List ℕ) → 0 < b → ¬ (Some (λ x. b ≤ x) l) → Within b l
below b l h none i = elim (dec_lt i (length l)) [
  | yes g ↦ elim (dec_lt (get_or l i 0) b) [ yes k ↦ k | no k ↦ absurd (none (i, g, omega arith)) ]
  | no g ↦ let e : get_or l i 0 ≡ 0 = get_or-eq_default l 0 (omega arith) in omega arith
]
