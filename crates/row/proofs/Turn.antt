-- The sums that loops gather: one term more, and where the coefficient of a product ends.
use mathlib.Core.Path.{◌≡◌}
use Prim.Native.Nat.{ℕ, suc, min, ◌+◌, ◌*◌, ◌-◌, ◌≤◌, ◌<◌}
use native.Mathlib.Decide.{dec_lt}
use native.Mathlib.Omega.{arith}
use native.Mathlib.Numerals.{add-one}
use Rattle.field.specs.declared.Halves.{Halves}
use Rattle.field.specs.Gathered.{Gathers}
use Rattle.field.proofs.Gathered.{gathers_then}
use Rattle.relation.specs.Sum.{sum_to}
use Rattle.relation.specs.Product.{conv}
use Rattle.relation.proofs.Product.{conv_short}
use Rattle.row.specs.Shape.{EndsAt}

-- a turn that gathers term t, in k products
pub sum_turn : {s h r : Halves} (j k t : ℕ) (f : ℕ → ℕ) → Gathers j s (sum_to t f) h → Gathers k h (f t) r → Gathers (j + k) s (sum_to (t + 1) f) r
unfolding sum_to
sum_turn j k t f a b = rw add-one (gathers_then j k a b)

-- the coefficient of X^k ends where its first factor has only zeros left
pub conv_end : (a f : ℕ → ℕ) (e k end : ℕ) → EndsAt a e → min e k < end → end ≤ k + 1 → conv a f k ≡ sum_to end (λ t. a t * f (k - t))
unfolding conv
conv_end a f e k end z l g = elim (dec_lt end (suc k)) [
  | yes h ↦ conv_short a f end k (omega arith) (λ t u. z t (omega arith))
  | no h ↦ let q : end ≡ suc k = omega arith in rw q
]
