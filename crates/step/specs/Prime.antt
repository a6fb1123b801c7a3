-- A number is prime in one way, so that a struct may keep the fact.
use Rattle.std.specs.Prelude.{◌≡◌, ℕ, ◌<◌, ◌⊎◌}
use Rattle.std.specs.Coded.{Π_prop, le_prop}
use Rattle.std.proofs.Common.{ap, arith}
use mathlib.Core.Logic.{inl, inr}
use native.Mathlib.Nat.{ℕ_set}
use Rattle.field.specs.Prime.{Divides, Prime}

-- of two facts of which at most one holds
apart_prop : {A B : Type 0} → IsProp A → IsProp B → (A → B → ⊥) → IsProp (A ⊎ B)
apart_prop a b apart (inl x) (inl y) = ap inl (a x y)
apart_prop a b apart (inl x) (inr y) = absurd (apart x y)
apart_prop a b apart (inr x) (inl y) = absurd (apart y x)
apart_prop a b apart (inr x) (inr y) = ap inr (b x y)

only_prop : (p : ℕ) → 1 < p → IsProp ((d : ℕ) → Divides d p → (d ≡ 1) ⊎ (d ≡ p))
only_prop p h = Π_prop (λ d. Π_prop (λ _. apart_prop (ℕ_set d 1) (ℕ_set d p) (λ e q. omega (arith, e, q))))

pub Prime-prop : (p : ℕ) → IsProp (Prime p)
Prime-prop p x y = λ i. record {
  above_one = le_prop x.above_one y.above_one i;
  only = only_prop p x.above_one x.only y.only i;
}
