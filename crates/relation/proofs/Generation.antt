-- Every member of V_s is a polynomial combination of the rows of a minimal basis, in exactly one way.
--   generated, combination_vector, combination_vanishes   V_s is what the rows generate
--   generated_by_row                                      members that only row i can reach are multiples of it
--   unique_combination                                    a vector has one combination
use mathlib.Core.Path.{◌≡◌, refl, ap, sym, ◌∙◌, fun_ext, subst}
use mathlib.Core.Logic.{◌≢◌}
use Prim.Native.Nat.{ℕ, zero, suc, ◌+◌, ◌*◌, ◌-◌, ◌%◌, ◌≤◌, ◌<◌}
use native.Mathlib.Nat.{mod-add-mod, mul-zero, add_assoc, mod-eq_of_lt, zero-mod}
use native.Mathlib.Decide.{ℕ_discrete, dec_le, dec_lt}
use native.Mathlib.Omega.{arith}
use Rattle.field.specs.Prime.{Prime}
use Rattle.field.proofs.Prime.{cancel_mul}
use Rattle.relation.specs.Sum.{sum_to}
use Rattle.relation.specs.Product.{conv, dot}
use Rattle.relation.specs.Vector.{Vect, IsVec}
use Rattle.relation.specs.Relation.{VanishesTo}
use Rattle.relation.specs.Combination.{combination, Combination}
use Rattle.relation.proofs.Sum.{sum_ext, sum_differ}
use Rattle.relation.proofs.Product.{dot_zero}
use Rattle.relation.specs.Operations.{add_multiple, unit}
use Rattle.relation.proofs.Vector.{times_x_power, zero_vector, vec_zero, vec_unit, vec_add_multiple, vec_times_x_power, dot_add_multiple, dot_times_x_power, times_x_power_entry, vanishes_zero, vanishes_term}
use Rattle.relation.specs.Weight.{weight, BelowWeight, LeadsAt}
use Rattle.relation.proofs.Weight.{weight_add, weight_inj, vec_below}
use Rattle.relation.specs.ReducedBasis.{WeightBasis}
use Rattle.relation.proofs.Basis.{reduction, reduction_all}
use Rattle.relation.proofs.Start.{start_basis}

combination_zero : (p n : ℕ) (Q : ℕ → Vect) (i k : ℕ) → combination p n zero_vector Q i k ≡ 0
unfolding combination
combination_zero p n Q i k = rw (dot_zero n (λ l. Q l i) k) (zero-mod p)

combination_step : (p n : ℕ) (Q : ℕ → Vect) (l t c : ℕ) (a : Vect) (i k : ℕ) → l < n
    → combination p n (add_multiple p c (times_x_power t (unit l)) a) Q i k ≡ add_multiple p c (times_x_power t (Q l)) (combination p n a Q) i k
unfolding combination add_multiple
combination_step p n Q l t c a i k hl =
    dot_add_multiple p n c (times_x_power t (unit l)) a (λ l. Q l i) k
    ∙ rw (dot_times_x_power n l t (λ l. Q l i) k hl, times_x_power_entry t (λ l. Q l i) (Q l) l i (λ k. refl) k) (sym (mod-add-mod _ p _))

combination_none : {p n : ℕ} (Q : ℕ → Vect) → 0 < p → Combination p n Q zero_vector
combination_none {p} {n} Q hp = record { by = zero_vector; vector = vec_zero p n hp; sum = λ i k. sym (combination_zero p n Q i k) }

-- a multiple of X^t * row l may be added
combination_add : {p n : ℕ} (Q : ℕ → Vect) (l t c : ℕ) (R : Vect) → 1 < p → l < n → Combination p n Q R → Combination p n Q (add_multiple p c (times_x_power t (Q l)) R)
unfolding add_multiple
combination_add {p} {n} Q l t c R hp hl m = record {
  by = add_multiple p c (times_x_power t (unit l)) m.by;
  vector = vec_add_multiple p n c (times_x_power t (unit l)) m.by (omega arith) (vec_times_x_power p n t (unit l) (omega arith) (vec_unit p n l hp hl)) m.vector;
  sum = λ i k. rw (m.sum i k) (sym (combination_step p n Q l t c m.by i k hl));
}

module _ {p n : ℕ} {b : ℕ → ℕ} {F : Vect} {s : ℕ} {Q : ℕ → Vect} {e : ℕ → ℕ} (pr : Prime p) (wb : WeightBasis p n b F s Q e) where
  pub generated : (P : Vect) → IsVec p n P → VanishesTo p n F s P → Combination p n Q P
  generated = reduction_all pr wb (λ P. Combination p n Q P) (combination_none Q (omega arith))
      (λ l t c R hl vR mR m. combination_add Q l t c R pr.above_one hl m)

  -- where row i alone leads below W, the members below W are multiples of row i
  pub generated_by_row : (i W : ℕ) → ((l : ℕ) → l < n → weight n b l (e l) < W → l ≡ i)
      → (P : Vect) → IsVec p n P → VanishesTo p n F s P → BelowWeight n b W P → Combination p 1 (λ l. Q i) P
  generated_by_row i W only = reduction pr wb (λ P. Combination p 1 (λ l. Q i) P) W (combination_none (λ l. Q i) (omega arith))
      (λ l t c R hl g vR mR m.
      let q : l ≡ i = only l hl (omega (arith, weight_add n b l (e l) t)) in
      rw q (combination_add (λ l. Q i) 0 t c R pr.above_one (omega arith) m))
      W (omega arith)

-- what holds of 0, and goes over to a sum with a multiple of X^t * row l, holds of every combination: the unit vectors generate the factors
combination_closed : {p n : ℕ} {Q : ℕ → Vect} → Prime p → (M : Vect → Type 0) → M zero_vector
    → ((l t c : ℕ) (R : Vect) → l < n → M R → M (add_multiple p c (times_x_power t (Q l)) R)) → (P : Vect) → Combination p n Q P → M P
combination_closed {p} {n} {Q} pr M none more P c =
    let every : M (combination p n c.by Q) = reduction_all pr (start_basis p n (λ i. 0) zero_vector pr)
    (λ a. M (combination p n a Q))
    (subst M (fun_ext λ i. fun_ext λ k. sym (combination_zero p n Q i k)) none)
    (λ l t x R hl vR mR m. subst M (fun_ext λ i. fun_ext λ k. sym (combination_step p n Q l t x R i k hl)) (more l t x (combination p n R Q) hl m))
    c.by c.vector (λ k hk. absurd (omega arith)) in
    subst M (fun_ext λ i. fun_ext λ k. sym (c.sum i k)) every

-- a combination of vectors is a vector, and a combination of relations a relation
module _ {p n : ℕ} {Q : ℕ → Vect} (pr : Prime p) (vec : (l : ℕ) → l < n → IsVec p n (Q l)) (P : Vect) (c : Combination p n Q P) where
  pub combination_vector : IsVec p n P
  combination_vector = combination_closed pr (λ R. IsVec p n R) (vec_zero p n (omega arith))
      (λ l t x R hl m. vec_add_multiple p n x (times_x_power t (Q l)) R (omega arith) (vec_times_x_power p n t (Q l) (omega arith) (vec l hl)) m) P c

  pub combination_vanishes : (F : Vect) (s : ℕ) → ((l : ℕ) → l < n → VanishesTo p n F s (Q l)) → VanishesTo p n F s P
  combination_vanishes F s mem = combination_closed pr (λ R. VanishesTo p n F s R) (vanishes_zero p n F s)
      (λ l t x R hl m. vanishes_term p n F s t x (Q l) R (mem l hl) m) P c

-- rows with their leading positions in different entries have one combination for a vector
module _ {p n : ℕ} {b : ℕ → ℕ} {Q : ℕ → Vect} {e : ℕ → ℕ} (pr : Prime p) (vec : (i : ℕ) → i < n → IsVec p n (Q i))
    (lead : (i : ℕ) → i < n → LeadsAt n b (Q i) i (e i)) (a a' : Vect) (va : IsVec p n a) (va' : IsVec p n a')
    (same : (i k : ℕ) → i < n → combination p n a Q i k ≡ combination p n a' Q i k) where
  Agree : ℕ → Type 0
  Agree W = (l t : ℕ) → l < n → W ≤ weight n b l (t + e l) → a l t ≡ a' l t

  -- the terms other than that of (l, t), at the position where that leads
  term_agree : (l t : ℕ) → l < n → Agree (suc (weight n b l (t + e l))) → (m s : ℕ) → m < n → s < suc (t + e l)
      → ((m ≡ l) × (s ≡ t) → ⊥) → a m s * Q m l (t + e l - s) ≡ a' m s * Q m l (t + e l - s)
  unfolding Agree
  term_agree l t hl h m s hm hs ne = elim (dec_le (suc (weight n b l (t + e l))) (weight n b m (s + e m))) [
    | yes g ↦ rw (h m s hm g)
    | no g ↦ elim (ℕ_discrete (weight n b m (s + e m)) (weight n b l (t + e l))) [
      | yes q ↦
          let u = weight_inj n b m (s + e m) l (t + e l) hm hl q in
          let v : e m ≡ e l = ap e u.0 in
          absurd (ne (u.0, omega arith))
      | no nq ↦
          let z : Q m l (t + e l - s) ≡ 0 = (lead m hm).above l (t + e l - s) hl (low (omega arith)) in
          rw (z, mul-zero (a m s), mul-zero (a' m s))
    ]
  ]
    where
      low : weight n b m (s + e m) < weight n b l (t + e l) → weight n b m (e m) < weight n b l (t + e l - s)
      low g =
          let q : weight n b l (s + (t + e l - s)) ≡ weight n b l (t + e l - s) + s * n = weight_add n b l (t + e l - s) s in
          let r : s + (t + e l - s) ≡ t + e l = omega arith in
          let q' : weight n b l (t + e l) ≡ weight n b l (t + e l - s) + s * n = rw r at q in
          omega (arith, weight_add n b m (e m) s)

  agree_at : (l t : ℕ) → l < n → Agree (suc (weight n b l (t + e l))) → a l t ≡ a' l t
  unfolding combination dot conv
  agree_at l t hl h =
      let k : ℕ = t + e l in
      let rows : conv (a l) (Q l l) k % p ≡ conv (a' l) (Q l l) k % p =
      sum_differ p n (λ m. conv (a m) (Q m l) k) (λ m. conv (a' m) (Q m l) k) l (omega arith) hl (same l k hl)
      (λ m hm ne. ap (λ (x : ℕ). x % p) (sum_ext (suc k) _ _ (λ s hs. term_agree l t hl h m s hm hs (λ z. ne z.0)))) in
      let term : (a l t * Q l l (k - t)) % p ≡ (a' l t * Q l l (k - t)) % p =
      sum_differ p (suc k) (λ s. a l s * Q l l (k - s)) (λ s. a' l s * Q l l (k - s)) t (omega arith) (omega arith) rows
      (λ s hs ne. ap (λ (x : ℕ). x % p) (term_agree l t hl h l s hl hs (λ z. ne z.1))) in
      let kt : k - t ≡ e l = omega arith in
      let nz : Q l l (k - t) ≢ 0 = rw kt (lead l hl).nonzero in
      let c : a l t % p ≡ a' l t % p = cancel_mul p pr (a l t) (a' l t) (Q l l (k - t)) ((vec l hl).small l (k - t)) nz term in
      sym (mod-eq_of_lt (va.small l t)) ∙ c ∙ mod-eq_of_lt (va'.small l t)

  down : (W : ℕ) → Agree W → Agree 0
  unfolding Agree
  down zero h = h
  down (suc W) h = down W (λ l t hl g. elim (ℕ_discrete W (weight n b l (t + e l))) [
    | yes q ↦ agree_at l t hl (rw (← q) h)
    | no nq ↦ h l t hl (omega arith)
  ])

  moved : (l t : ℕ) → weight n (λ i. e i + b i) l t ≡ weight n b l (t + e l)
  unfolding weight
  moved l t = rw (add_assoc t (e l) (b l))

  bound : ℕ
  bound = ((va.bound + sum_to n (λ i. e i + b i)) * n + n) + ((va'.bound + sum_to n (λ i. e i + b i)) * n + n)

  agree_top : Agree bound
  unfolding Agree bound
  agree_top l t hl g =
      let z : a l t ≡ 0 = vec_below p n (λ i. e i + b i) a va l t hl (omega (arith, moved l t)) in
      let z' : a' l t ≡ 0 = vec_below p n (λ i. e i + b i) a' va' l t hl (omega (arith, moved l t)) in
      z ∙ sym z'

  pub unique_combination : a ≡ a'
  unfolding Agree
  unique_combination = fun_ext λ l. fun_ext λ t. elim (dec_lt l n) [
    | yes hl ↦ down bound agree_top l t hl (omega arith)
    | no g ↦ va.out l t (omega arith) ∙ sym (va'.out l t (omega arith))
  ]
