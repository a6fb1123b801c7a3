-- Weights want natural numbers b_i = B - d_i for some B. Every type has them, and with them
-- comparing deg - d_i is comparing deg + b_i.
use mathlib.Core.Path.{◌≡◌, ap, sym, ◌∙◌}
use mathlib.Core.Logic.{◌↔◌}
use Prim.Native.Nat.{ℕ, suc, ◌+◌, ◌≤◌, ◌<◌}
use native.Mathlib.Omega.{arith}
use lib.IntN.{ℤ, pos, negsuc, neg_ℤ, ◌+ℤ◌, nat_abs, +ℤ_assoc, +ℤ_comm, +ℤ_idl, +ℤ_idr, +ℤ_invl, +ℤ_invr}
use Rattle.relation.specs.Sum.{sum_to}
use lib.Signed.{◌≤ℤ◌}
use Rattle.relation.specs.ShiftedDegree.{shift}
use Rattle.relation.specs.Weight.{less}
use Rattle.relation.proofs.Sum.{sum_ge}
use Rattle.relation.proofs.Integer.{pos_inj, le_pos, pos_le, le_add, cancel_add, cancel_le}

-- b i is B - d i
pub record Offset (n : ℕ) (d : ℕ → ℤ) (B : ℕ) (b : ℕ → ℕ) : Type 0 where
  pub at : (i : ℕ) → i < n → pos (b i) +ℤ d i ≡ pos B

less_is : (B : ℕ) (z : ℤ) → nat_abs z ≤ B → pos (less B z) +ℤ z ≡ pos B
unfolding less
less_is B (pos x) h = ap pos (omega arith)
less_is B (negsuc x) h = +ℤ_assoc (pos B) (pos (suc x)) (negsuc x) ∙ ap (λ (w : ℤ). pos B +ℤ w) (+ℤ_invr (pos (suc x))) ∙ +ℤ_idr (pos B)

-- such a B, and the b i, for every type
unfoldable pub base : ℕ → (ℕ → ℤ) → ℕ
base n d = sum_to n (λ i. nat_abs (d i))

unfoldable pub offsets : ℕ → (ℕ → ℤ) → ℕ → ℕ
offsets n d i = less (base n d) (d i)

pub offset : (n : ℕ) (d : ℕ → ℤ) → Offset n d (base n d) (offsets n d)
unfolding base offsets
offset n d = record { at = λ i hi. less_is (base n d) (d i) (sum_ge n (λ i. nat_abs (d i)) i hi) }

module _ {n : ℕ} {d : ℕ → ℤ} {B : ℕ} {b : ℕ → ℕ} (o : Offset n d B b) where
  pub lifted : (i e : ℕ) → i < n → shift d i e +ℤ pos B ≡ pos (e + b i)
  lifted i e hi =
      let u : neg_ℤ (d i) +ℤ pos B ≡ pos (b i) =
      ap (λ (w : ℤ). neg_ℤ (d i) +ℤ w) (sym (o.at i hi) ∙ +ℤ_comm (pos (b i)) (d i)) ∙ sym (+ℤ_assoc (neg_ℤ (d i)) (d i) (pos (b i)))
      ∙ ap (λ (w : ℤ). w +ℤ pos (b i)) (+ℤ_invl (d i)) ∙ +ℤ_idl (pos (b i)) in
      +ℤ_assoc (pos e) (neg_ℤ (d i)) (pos B) ∙ ap (λ (w : ℤ). pos e +ℤ w) u

  pub shift_le : (i e j k : ℕ) → i < n → j < n → (shift d i e ≤ℤ shift d j k) ↔ (e + b i ≤ k + b j)
  shift_le i e j k hi hj = (
    λ h. pos_le (e + b i) (k + b j) (rw (lifted i e hi, lifted j k hj) at (le_add (shift d i e) (shift d j k) (pos B) h)),
    λ h. cancel_le (shift d i e) (shift d j k) (pos B) (rw (lifted i e hi, lifted j k hj) (le_pos (e + b i) (k + b j) h)),
  )

  pub shift_eq : (i e j k : ℕ) → i < n → j < n → (shift d i e ≡ shift d j k) ↔ (e + b i ≡ k + b j)
  shift_eq i e j k hi hj = (
    λ h. pos_inj (e + b i) (k + b j) (sym (lifted i e hi) ∙ ap (λ (w : ℤ). w +ℤ pos B) h ∙ lifted j k hj),
    λ h. cancel_add (shift d i e) (shift d j k) (pos B) (lifted i e hi ∙ ap pos h ∙ sym (lifted j k hj)),
  )
