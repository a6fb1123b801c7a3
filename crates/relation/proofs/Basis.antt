-- Minimal bases by weights, reduction by their rows, and that a reduced one is unique.
--   basis_ext                              rows and pivots count only below n
--   reduction, reduction_all               what holds of 0 and goes over to sums with multiples of rows holds of V_s
--   same_pivots, unique                    a reduced minimal basis is unique
use mathlib.Core.Path.{◌≡◌, sym, ◌∙◌, fun_ext, subst}
use mathlib.Core.Logic.{◌≢◌, inl, inr}
use Prim.Native.Nat.{ℕ, zero, suc, ◌+◌, ◌*◌, ◌-◌, ◌%◌, ◌≤◌, ◌<◌}
use native.Mathlib.Nat.{add-mod, mod-mod, add-mul, mul_assoc, mul_comm, mul-one, add_comm}
use native.Mathlib.Decide.{ℕ_discrete, dec_lt}
use native.Mathlib.Omega.{arith}
use Rattle.field.specs.Prime.{Prime}
use Rattle.field.proofs.Residue.{neg, neg_add, mod_mul, mult_zero, diff_zero}
use Rattle.field.proofs.Prime.{inverse_exists}
use Rattle.relation.specs.Sum.{sum_to}
use Rattle.relation.specs.Vector.{Vect, IsVec}
use Rattle.relation.specs.Relation.{VanishesTo}
use Rattle.relation.specs.ReducedBasis.{WeightBasis, ReducedBasis}
use Rattle.relation.specs.Operations.{add_multiple}
use Rattle.relation.proofs.Vector.{times_x_power, zero_vector, vec_add_multiple, vec_times_x_power, zero_add_multiple, add_multiple_back, times_x_power_at, vanishes_add_multiple, vanishes_term}
use Rattle.relation.specs.Weight.{weight, BelowWeight, LeadsAt}
use Rattle.relation.proofs.Weight.{weight_add, weight_lt, weight_inj, below_times_x_power, vec_below, Top, top, no_lead}

-- rows and pivots count only below n
pub basis_ext : {p n : ℕ} {b : ℕ → ℕ} {F : Vect} {s : ℕ} {Q N : ℕ → Vect} {e e' : ℕ → ℕ} → ((l : ℕ) → l < n → Q l ≡ N l) → ((l : ℕ) → l < n → e l ≡ e' l)
    → ReducedBasis p n b F s Q e → ReducedBasis p n b F s N e'
basis_ext {p} {n} {b} {F} {s} {Q} {N} {e} {e'} q r rb = record {
  basis = record {
    vec = λ i hi. rw (← q i hi) (rb.basis.vec i hi);
    mem = λ i hi. rw (← q i hi) (rb.basis.mem i hi);
    lead = λ i hi. rw (← q i hi, ← r i hi) (rb.basis.lead i hi);
    least = λ i hi. rw (← r i hi) (rb.basis.least i hi);
  };
  reduced = record {
    monic = λ i hi. rw (← q i hi, ← r i hi) (rb.reduced.monic i hi);
    clear = λ l k hl hk. rw (← q l hl, ← r k hk) (rb.reduced.clear l k hl hk);
  };
}

-- a less (a / q) * q is 0, for g the inverse of q
pub kill_by : (p a q g : ℕ) → 0 < p → (q * g) % p ≡ 1 → (a + neg p (a * g) * q) % p ≡ 0
kill_by p a q g hp h =
    let c : ℕ = a * g in
    let u : (c * q) % p ≡ a % p =
    rw (mul_assoc a g q, mul_comm g q) (mod_mul p a _ ∙ rw (h, mul-one) (mod-mod a p)) in
    let v : (neg p c * q + c * q) % p ≡ 0 = rw (← add-mul) (mult_zero p (neg p c + c) q (neg_add p c hp)) in
    rw (add_comm a (neg p c * q)) (add-mod _ _ p ∙ rw (← u) (sym (add-mod _ _ p) ∙ v))

-- a number a is taken away by a multiple of any q that is not 0
pub kill : (p : ℕ) → Prime p → (a q : ℕ) → q < p → q ≢ 0 → (c : ℕ) × ((a + neg p c * q) % p ≡ 0)
kill p pr a q l z = let i = inverse_exists p pr q (omega arith) l in (a * i.0, kill_by p a q i.0 (omega arith) i.1.product)

-- with S leading at the same position, the leading position goes
pub reduce_one : (p n : ℕ) (b : ℕ → ℕ) (c : ℕ) (S P : Vect) (i k : ℕ) → i < n → BelowWeight n b (suc (weight n b i k)) S → BelowWeight n b (suc (weight n b i k)) P
    → (P i k + c * S i k) % p ≡ 0 → BelowWeight n b (weight n b i k) (add_multiple p c S P)
unfolding add_multiple
reduce_one p n b c S P i k hi hS hP z j l hj g = elim (ℕ_discrete (weight n b j l) (weight n b i k)) [
  | yes q ↦ let u = weight_inj n b j l i k hj hi q in rw (u.0, u.1) z
  | no nq ↦ zero_add_multiple p c _ _ (hP j l hj (omega arith)) (hS j l hj (omega arith))
]

-- P is c * X^power * row and a rest of lower weight
pub record Taken (p n : ℕ) (b : ℕ → ℕ) (F : Vect) (s : ℕ) (Q : ℕ → Vect) (e : ℕ → ℕ) (u : ℕ) (P : Vect) : Type 0 where
  pub row : ℕ
  pub power : ℕ
  pub factor : ℕ
  pub rest : Vect
  pub row< : row < n
  pub at : weight n b row (power + e row) ≡ u
  pub vec : IsVec p n rest
  pub mem : VanishesTo p n F s rest
  pub below : BelowWeight n b u rest
  pub sum : add_multiple p factor (times_x_power power (Q row)) rest ≡ P

module _ {p n : ℕ} {b : ℕ → ℕ} {F : Vect} {s : ℕ} {Q : ℕ → Vect} {e : ℕ → ℕ} (pr : Prime p) (wb : WeightBasis p n b F s Q e) where
  shifted_below : (l t : ℕ) → l < n → BelowWeight n b (suc (weight n b l (t + e l))) (times_x_power t (Q l))
  shifted_below l t hl i k hi g = below_times_x_power n b (suc (weight n b l (e l))) t (Q l) (wb.lead l hl).above i k hi (omega (arith, weight_add n b l (e l) t))

  take : (u : ℕ) (P : Vect) → IsVec p n P → VanishesTo p n F s P → (i k t : ℕ) → i < n → weight n b i k ≡ u → LeadsAt n b P i k → t + e i ≡ k
      → Taken p n b F s Q e u P
  take u P vP mP i k t hi we ld te =
      let S : Vect = times_x_power t (Q i) in
      let vS : IsVec p n S = vec_times_x_power p n t (Q i) (omega arith) (wb.vec i hi) in
      let q : S i k ≡ Q i i (e i) = rw (← te) (times_x_power_at t (Q i) i (e i)) in
      let nz : S i k ≢ 0 = λ z. (wb.lead i hi).nonzero (sym q ∙ z) in
      let kl = kill p pr (P i k) (S i k) (vS.small i k) nz in
      let bS : BelowWeight n b (suc (weight n b i k)) S = rw te at (shifted_below i t hi) in
      record {
        row = i;
        power = t;
        factor = kl.0;
        rest = add_multiple p (neg p kl.0) S P;
        row< = hi;
        at = rw te we;
        vec = vec_add_multiple p n (neg p kl.0) S P (omega arith) vS vP;
        mem = vanishes_term p n F s t (neg p kl.0) (Q i) P (wb.mem i hi) mP;
        below = rw we at (reduce_one p n b (neg p kl.0) S P i k hi bS ld.above kl.1);
        sum = add_multiple_back p n kl.0 S P (omega arith) vP;
      }

  took : (u : ℕ) (P : Vect) → IsVec p n P → VanishesTo p n F s P → Top n b u P → Taken p n b F s Q e u P
  unfolding Top
  took u P vP mP t =
      let h : e t.0 ≤ t.1 = wb.least t.0 t.2 P vP mP t.1 t.4 in
      take u P vP mP t.0 t.1 (t.1 - e t.0) t.2 t.3 t.4 (omega arith)

  -- what holds of 0, and goes over to a sum with a multiple of X^t * row l of weight below W, holds of the members of V_s below W
  pub reduction : (M : Vect → Type 0) (W : ℕ) → M zero_vector
      → ((l t c : ℕ) (R : Vect) → l < n → weight n b l (t + e l) < W → IsVec p n R → VanishesTo p n F s R → M R → M (add_multiple p c (times_x_power t (Q l)) R))
      → (u : ℕ) → u ≤ W → (P : Vect) → IsVec p n P → VanishesTo p n F s P → BelowWeight n b u P → M P
  reduction M W m0 step zero hu P vP mP h =
      let z : (i k : ℕ) → zero_vector i k ≡ P i k = λ i k. elim (dec_lt i n)
      [ yes hi ↦ sym (h i k hi (omega arith)) | no g ↦ sym (vP.out i k (omega arith)) ] in
      subst M (fun_ext λ i. fun_ext λ k. z i k) m0
  reduction M W m0 step (suc u) hu P vP mP h = elim (top n b u P h) [
    | inl g ↦ reduction M W m0 step u (omega arith) P vP mP g
    | inr t ↦
        let k : Taken p n b F s Q e u P = took u P vP mP t in
        let m : M k.rest = reduction M W m0 step u (omega arith) k.rest k.vec k.mem k.below in
        subst M k.sum (step k.row k.power k.factor k.rest k.row< (omega arith) k.vec k.mem m)
  ]

  -- the same for all members of V_s
  pub reduction_all : (M : Vect → Type 0) → M zero_vector
      → ((l t c : ℕ) (R : Vect) → l < n → IsVec p n R → VanishesTo p n F s R → M R → M (add_multiple p c (times_x_power t (Q l)) R))
      → (P : Vect) → IsVec p n P → VanishesTo p n F s P → M P
  reduction_all M m0 step P vP mP =
      reduction M ((vP.bound + sum_to n b) * n + n) m0 (λ l t c R hl lt vR mR m. step l t c R hl vR mR m)
      ((vP.bound + sum_to n b) * n + n) (omega arith) P vP mP (vec_below p n b P vP)

pub same_pivots : {p n : ℕ} {b : ℕ → ℕ} {F : Vect} {s : ℕ} {Q Q' : ℕ → Vect} {e e' : ℕ → ℕ}
    → WeightBasis p n b F s Q e → WeightBasis p n b F s Q' e' → (i : ℕ) → i < n → e i ≡ e' i
same_pivots {Q} {Q'} {e} {e'} wb wb' i hi =
    let a : e i ≤ e' i = wb.least i hi (Q' i) (wb'.vec i hi) (wb'.mem i hi) (e' i) (wb'.lead i hi) in
    let c : e' i ≤ e i = wb'.least i hi (Q i) (wb.vec i hi) (wb.mem i hi) (e i) (wb.lead i hi) in
    omega arith

-- a reduced minimal basis is unique
module _ {p n : ℕ} {b : ℕ → ℕ} {F : Vect} {s : ℕ} {Q Q' : ℕ → Vect} {e e' : ℕ → ℕ}
    (rb : ReducedBasis p n b F s Q e) (rb' : ReducedBasis p n b F s Q' e') where
  above_zero : (i : ℕ) → i < n → 0 < p
  above_zero i hi = omega (arith, (rb.basis.vec i hi).small 0 0)

  -- the difference of the rows i has no leading position
  diff_diag : (i : ℕ) → i < n → (k : ℕ) → e i ≤ k → add_multiple p (neg p 1) (Q' i) (Q i) i k ≡ 0
  unfolding add_multiple
  diff_diag i hi k g =
      let q : e i ≡ e' i = same_pivots rb.basis rb'.basis i hi in
      elim (ℕ_discrete (e i) k) [
        | yes r ↦
            let u : Q i i k ≡ 1 = rw (← r) (rb.reduced.monic i hi) in
            let v : Q' i i k ≡ 1 = rw (← r, q) (rb'.reduced.monic i hi) in
            rw (u, v, mul-one, add_comm 1 (neg p 1)) (neg_add p 1 (above_zero i hi))
        | no nr ↦ zero_add_multiple p (neg p 1) _ _
            ((rb.basis.lead i hi).above i k hi (weight_lt n b i (e i) k (omega arith) (omega arith)))
            ((rb'.basis.lead i hi).above i k hi (weight_lt n b i (e' i) k (omega arith) (omega arith)))
      ]

  diff_vec : (i : ℕ) → i < n → IsVec p n (add_multiple p (neg p 1) (Q' i) (Q i))
  diff_vec i hi = vec_add_multiple p n (neg p 1) (Q' i) (Q i) (above_zero i hi) (rb'.basis.vec i hi) (rb.basis.vec i hi)

  diff_none : (i : ℕ) → i < n → (j k : ℕ) → j < n → ¬ LeadsAt n b (add_multiple p (neg p 1) (Q' i) (Q i)) j k
  unfolding add_multiple
  diff_none i hi j k hj ld =
      let D : Vect = add_multiple p (neg p 1) (Q' i) (Q i) in
      let ek : e j ≤ k = rb.basis.least j hj D (diff_vec i hi)
      (vanishes_add_multiple p n F s (neg p 1) (Q' i) (Q i) (rb'.basis.mem i hi) (rb.basis.mem i hi)) k ld in
      let ej : e j ≡ e' j = same_pivots rb.basis rb'.basis j hj in
      elim (ℕ_discrete i j) [
        | no ne ↦ ld.nonzero (zero_add_multiple p (neg p 1) _ _ (rb.reduced.clear i j hi hj ne k ek) (rb'.reduced.clear i j hi hj ne k (omega arith)))
        | yes q ↦ ld.nonzero (subst (λ (x : ℕ). add_multiple p (neg p 1) (Q' i) (Q i) x k ≡ 0) q (diff_diag i hi k (rw q ek)))
      ]

  pub unique : (i : ℕ) → i < n → Q i ≡ Q' i
  unfolding add_multiple
  unique i hi =
      let z : (j k : ℕ) → j < n → add_multiple p (neg p 1) (Q' i) (Q i) j k ≡ 0 = no_lead n b _ _ (vec_below p n b _ (diff_vec i hi)) (diff_none i hi) in
      fun_ext λ j. fun_ext λ k. elim (dec_lt j n) [
        | yes hj ↦ diff_zero p _ _ (above_zero i hi) ((rb.basis.vec i hi).small j k) ((rb'.basis.vec i hi).small j k) (z j k hj)
        | no g ↦ (rb.basis.vec i hi).out j k (omega arith) ∙ sym ((rb'.basis.vec i hi).out j k (omega arith))
      ]
