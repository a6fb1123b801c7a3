-- A loop that adds multiples of rows one by one: what is left of a coefficient, one row more, and a row that is left out.
use mathlib.Core.Path.{◌≡◌, ap, sym, ◌∙◌, fun_ext}
use mathlib.Core.Logic.{◌≢◌}
use Prim.Native.Nat.{ℕ, ◌+◌, ◌*◌, ◌-◌, ◌<◌}
use native.Mathlib.Nat.{add-zero, zero-mul, mul-zero, mod-lt, mod-eq_of_lt}
use native.Mathlib.Numerals.{add-one}
use native.Mathlib.Decide.{ℕ_discrete}
use native.Mathlib.Omega.{arith}
use Rattle.relation.specs.Sum.{sum_to}
use Rattle.relation.specs.Vector.{Vect}
use Rattle.relation.proofs.Sum.{sum_all_zero}
use Rattle.relation.specs.Operations.{add_multiple, add_multiples}
use Rattle.relation.proofs.Vector.{add_multiples_more}
use Rattle.relation.proofs.Pick.{pick_yes, pick_no}
use Rattle.step.specs.Factor.{column_factor}

pub add_multiples_below : (p N : ℕ) (a : ℕ → ℕ) (R : ℕ → Vect) (P : Vect) → 0 < p → (k t : ℕ) → add_multiples p N a R P k t < p
unfolding add_multiples
add_multiples_below p N a R P h k t = mod-lt _ h

-- nothing is added yet
pub add_multiples_start : (p : ℕ) (a : ℕ → ℕ) (R : ℕ → Vect) (P : Vect) → ((k t : ℕ) → P k t < p) → P ≡ add_multiples p 0 a R P
unfolding add_multiples sum_to
add_multiples_start p a R P h = fun_ext λ k. fun_ext λ t. sym (rw add-zero (mod-eq_of_lt (h k t)))

module _ (p i : ℕ) (e : ℕ → ℕ) (R : ℕ → Vect) (X : Vect) where
  pub factor_own : (l : ℕ) → l ≡ i → column_factor p i e X l ≡ 0
  unfolding column_factor
  factor_own l q = pick_yes (ℕ_discrete l i) _ _ q

  pub factor_other : (l : ℕ) → l ≢ i → column_factor p i e X l ≡ p - X l (e l)
  unfolding column_factor
  factor_other l ne = pick_no (ℕ_discrete l i) _ _ ne

  -- the coefficient to clear next is still that of X
  pub still : (n k : ℕ) → k < n → k ≢ i → X k (e k) < p
      → ((l : ℕ) → l < n → l ≢ i → l ≢ k → R l k (e k) ≡ 0)
      → add_multiples p k (column_factor p i e X) R X k (e k) ≡ X k (e k)
  unfolding add_multiples
  still n k h ne small z =
      let y : sum_to k (λ l. column_factor p i e X l * R l k (e k)) ≡ 0 = sum_all_zero k _ (λ l hl. elim (ℕ_discrete l i) [
        | yes q ↦ rw (factor_own l q) (zero-mul _)
        | no nq ↦ rw (z l (omega arith) nq (omega arith)) (mul-zero _)
      ]) in
      rw (y, add-zero) (mod-eq_of_lt small)

  -- row k is added
  pub add_turn : (k x : ℕ) (moved : Vect) → k ≢ i → x ≡ X k (e k)
      → moved ≡ add_multiple p (p - x) (R k) (add_multiples p k (column_factor p i e X) R X)
      → moved ≡ add_multiples p (k + 1) (column_factor p i e X) R X
  add_turn k x moved ne q m =
      m ∙ ap (λ (c : ℕ). add_multiple p c (R k) (add_multiples p k (column_factor p i e X) R X)) (rw q (sym (factor_other k ne)))
      ∙ add_multiples_more p k (column_factor p i e X) R X ∙ rw add-one

  -- row i is left out
  pub skip_turn : (k : ℕ) → k ≡ i → add_multiples p k (column_factor p i e X) R X ≡ add_multiples p (k + 1) (column_factor p i e X) R X
  unfolding add_multiples sum_to
  skip_turn k q = fun_ext λ l. fun_ext λ t. rw add-one (rw (factor_own k q, zero-mul, add-zero))
