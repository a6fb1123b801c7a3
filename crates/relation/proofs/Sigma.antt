-- At the order σ of a type some pivot degree is at most d_i: they add up to at most σ, which is less than the sum of the d_i + 1.
use mathlib.Core.Path.{◌≡◌, refl, ap, sym, ◌∙◌}
use mathlib.Core.Logic.{◌⊎◌, inl, inr}
use mathlib.Core.List.{[], ◌∷◌}
use Prim.Native.Nat.{ℕ, zero, suc, ◌+◌, ◌≤◌, ◌<◌}
use native.Mathlib.Decide.{ℕ_discrete, dec_le}
use native.Mathlib.Omega.{arith}
use lib.IntN.{ℤ, pos, ◌+ℤ◌, +ℤ_assoc, +ℤ_comm, -ℤ-+ℤ_cancel}
use Rattle.sizes.specs.Entry.{type_of}
use Rattle.relation.specs.Sum.{sum_to}
use Rattle.relation.specs.Sigma.{sumℤ, sigma_of}
use Rattle.relation.proofs.Sum.{sum_add, sum_le}
use Rattle.relation.proofs.Integer.{pos_inj, swap_last}
use Rattle.relation.proofs.Shift.{Offset}

-- some number below n has the property of a decision, or none has
some_or_none : (n : ℕ) (f : ℕ → ℕ) (B : ℕ) → ((l : ℕ) × (l < n) × (f l ≤ B)) ⊎ ((l : ℕ) → l < n → B < f l)
some_or_none zero f B = inr (λ l hl. absurd (omega arith))
some_or_none (suc n) f B = elim (dec_le (f n) B) [
  | yes g ↦ inl (n, omega arith, g)
  | no g ↦ elim (some_or_none n f B) [
    | inl s ↦ inl (s.0, omega (arith, s.1), s.2)
    | inr h ↦ inr (λ l hl. elim (ℕ_discrete l n) [ yes q ↦ rw q (omega arith) | no nq ↦ h l (omega arith) ])
  ]
]

module _ {d : ℕ → ℤ} {B : ℕ} {b : ℕ → ℕ} where
  -- the sum of the d_i + 1 and the b_i is n times B + 1
  sum_offset : (n : ℕ) → Offset n d B b → sumℤ n (λ i. d i +ℤ pos 1) +ℤ pos (sum_to n b) ≡ pos (sum_to n (λ i. suc B))
  unfolding sumℤ sum_to
  sum_offset zero o = refl
  sum_offset (suc n) o =
      let x : ℤ = sumℤ n (λ i. d i +ℤ pos 1) in
      let ih : x +ℤ pos (sum_to n b) ≡ pos (sum_to n (λ i. suc B)) = sum_offset n (record { at = λ i hi. o.at i (omega arith) }) in
      let last : (d n +ℤ pos 1) +ℤ pos (b n) ≡ pos (suc B) =
      swap_last (d n) (pos 1) (pos (b n)) ∙ ap (λ (w : ℤ). w +ℤ pos 1) (+ℤ_comm (d n) (pos (b n)) ∙ o.at n (omega arith)) ∙ ap pos (omega arith) in
      sym (+ℤ_assoc (x +ℤ (d n +ℤ pos 1)) (pos (sum_to n b)) (pos (b n)))
      ∙ ap (λ (w : ℤ). w +ℤ pos (b n)) (swap_last x (d n +ℤ pos 1) (pos (sum_to n b)) ∙ ap (λ (w : ℤ). w +ℤ (d n +ℤ pos 1)) ih)
      ∙ +ℤ_assoc (pos (sum_to n (λ i. suc B))) (d n +ℤ pos 1) (pos (b n)) ∙ ap (λ (w : ℤ). pos (sum_to n (λ i. suc B)) +ℤ w) last

  pub small_pivot : {n : ℕ} → Offset n d B b → (σ : ℕ) → pos σ ≡ sigma_of n d → (e : ℕ → ℕ) → sum_to n e ≤ σ → (l : ℕ) × (l < n) × (e l + b l ≤ B)
  unfolding sigma_of
  small_pivot {n} o σ h e g = elim (some_or_none n (λ l. e l + b l) B) [
    | inl s ↦ s
    | inr z ↦
        let S : ℤ = sumℤ n (λ i. d i +ℤ pos 1) in
        let u : S ≡ pos (σ + 1) = sym (-ℤ-+ℤ_cancel S (pos 1)) ∙ ap (λ (w : ℤ). w +ℤ pos 1) (sym h) in
        let q : (σ + 1) + sum_to n b ≡ sum_to n (λ i. suc B) = pos_inj _ _ (ap (λ (w : ℤ). w +ℤ pos (sum_to n b)) (sym u) ∙ sum_offset n o) in
        absurd (omega (arith, sum_le n (λ i. suc B) (λ l. e l + b l) z, sum_add n e b))
  ]

-- document 01's examples: (127, 127) has the order 255, (128, 127) the order 256
pub sigma_worked : (sigma_of 2 (type_of (127 ∷ 127 ∷ [])) ≡ pos 255) × (sigma_of 2 (type_of (128 ∷ 127 ∷ [])) ≡ pos 256)
unfolding sigma_of sumℤ
sigma_worked = (refl, refl)
