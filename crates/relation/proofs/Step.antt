-- One order more: from the reduced minimal basis of V_j to that of V_(j+1).
-- c_l is the coefficient of X^j in the sum of the Q_l f. Where all c_l are 0 nothing changes. Otherwise let i be the first row by weight with
-- c_i not 0: every other row takes a multiple of row i, so that its c vanishes, and row i becomes X times itself, less multiples
-- of the new rows, so that it is reduced again. Any factors that do this serve.
--   ClearsOrder, ClearsColumns      what the factors have to do
--   Stepped                         the new rows and pivots
--   step_same, step                 the theorem
--   cleared-*, moved-*              what a loop that works in place needs on the way
use mathlib.Core.Path.{◌≡◌, refl, sym, ◌∙◌, subst, subst₂}
use mathlib.Core.Logic.{◌≢◌}
use Prim.Native.Nat.{ℕ, zero, suc, ◌+◌, ◌*◌, ◌%◌, ◌≤◌, ◌<◌}
use native.Mathlib.Nat.{mod-add-mod, mul-zero, zero-mul, add_comm, mod-eq_of_lt, mod-lt, mul-one, add-zero, zero-add, zero-mod}
use native.Mathlib.Decide.{ℕ_discrete, dec_lt}
use native.Mathlib.Omega.{arith}
use Rattle.field.specs.Prime.{Prime}
use Rattle.field.proofs.Residue.{neg, neg_add, mod_mul_right, drop_mult, mult_zero, neg_nonzero}
use Rattle.field.proofs.Prime.{no_zero_div}
use Rattle.relation.specs.Sum.{sum_to}
use Rattle.relation.specs.Product.{dot}
use Rattle.relation.specs.Vector.{Vect, IsVec}
use Rattle.relation.specs.Relation.{VanishesTo}
use Rattle.relation.specs.Moving.{FirstRow, cleared_row, moved_row}
use Rattle.relation.proofs.Sum.{sum_single, sum_all_zero, sum_cong, sum_zero}
use Rattle.relation.specs.Operations.{add_multiple, add_multiples, times_x}
use Rattle.relation.proofs.Vector.{vec_add_multiple, vec_times_x, zero_add_multiple, dot_add_multiple, vanishes_zero, vanishes_add_multiple, vanishes_times_x, vanishes_term, vanishes_more, vanishes_less, add_multiples_keep}
use Rattle.relation.specs.Weight.{weight, BelowWeight, LeadsAt}
use Rattle.relation.proofs.Weight.{weight_suc, weight_lt, weight_le, below_times_x}
use Rattle.relation.specs.ReducedBasis.{WeightBasis, ReducedAt, ReducedBasis}
use Rattle.relation.proofs.Basis.{reduction, reduce_one}

-- m l times row i takes the coefficient of X^j away from row l
pub record ClearsOrder (p n : ℕ) (F : Vect) (j : ℕ) (Q : ℕ → Vect) (i : ℕ) (m : ℕ → ℕ) : Type 0 where
  pub clears : (l : ℕ) → l < n → (dot n (Q l) F j + m l * dot n (Q i) F j) % p ≡ 0

-- a l takes away the coefficient of X^(e l) in entry l of X * Q i
pub record ClearsColumns (p n : ℕ) (Q : ℕ → Vect) (e : ℕ → ℕ) (i : ℕ) (a : ℕ → ℕ) : Type 0 where
  pub own : a i ≡ 0
  pub others : (l : ℕ) → l < n → l ≢ i → (times_x (Q i) l (e l) + a l) % p ≡ 0

-- N and e' are the rows and pivots after the step
pub record Stepped (p n : ℕ) (m a : ℕ → ℕ) (Q : ℕ → Vect) (e : ℕ → ℕ) (i : ℕ) (N : ℕ → Vect) (e' : ℕ → ℕ) : Type 0 where
  pub pivot : e' i ≡ suc (e i)
  pub pivots : (l : ℕ) → l < n → l ≢ i → e' l ≡ e l
  pub row : N i ≡ moved_row p n m a Q i
  pub rows : (l : ℕ) → l < n → l ≢ i → N l ≡ cleared_row p m Q i l

module _ {p n : ℕ} {b : ℕ → ℕ} {F : Vect} {j : ℕ} {Q : ℕ → Vect} {e : ℕ → ℕ} (pr : Prime p) (rb : ReducedBasis p n b F j Q e) where
  -- where nothing changes
  pub step_same : ((l : ℕ) → l < n → dot n (Q l) F j % p ≡ 0) → ReducedBasis p n b F (suc j) Q e
  step_same z = record {
    basis = record {
      vec = rb.basis.vec;
      mem = λ l hl. vanishes_more p n F j (Q l) (rb.basis.mem l hl) (z l hl);
      lead = rb.basis.lead;
      least = λ l hl P vP h. rb.basis.least l hl P vP (vanishes_less p n F j P h);
    };
    reduced = rb.reduced;
  }

  module _ {i : ℕ} (fr : FirstRow n (λ l. dot n (Q l) F j % p) (λ l. weight n b l (e l)) i) where
    hi : i < n
    hi = fr.row<

    -- the rows of lower pivots are in V (j + 1)
    low_row : (l : ℕ) → l < n → weight n b l (e l) < weight n b i (e i) → VanishesTo p n F (suc j) (Q l)
    low_row l hl lt = vanishes_more p n F j (Q l) (rb.basis.mem l hl) (elim (ℕ_discrete (dot n (Q l) F j % p) 0) [
      | yes z ↦ z
      | no z ↦ absurd (let g : weight n b i (e i) ≤ weight n b l (e l) = fr.least l hl z in omega arith)
    ])

    -- so is each member of V j below the pivot of row i
    low_rel : (P : Vect) → IsVec p n P → VanishesTo p n F j P → BelowWeight n b (weight n b i (e i)) P → VanishesTo p n F (suc j) P
    low_rel P vP hP h = reduction pr rb.basis (λ P. VanishesTo p n F (suc j) P) (weight n b i (e i)) (vanishes_zero p n F (suc j))
        (λ l t c R hl lt vR mR m. vanishes_term p n F (suc j) t c (Q l) R (low_row l hl (omega (arith, weight_le n b l (e l) (t + e l) (omega arith)))) m)
        (weight n b i (e i)) (omega arith) P vP hP h

    -- no member of V (j + 1) leads where row i did
    not_there : (P : Vect) → IsVec p n P → VanishesTo p n F (suc j) P → ¬ LeadsAt n b P i (e i)
    not_there P vP hP ld =
        let x : ℕ = P i (e i) in
        let c : ℕ = neg p x in
        let q : (P i (e i) + c * Q i i (e i)) % p ≡ 0 = rw (rb.reduced.monic i hi, mul-one, add_comm (P i (e i)) (neg p (P i (e i)))) (neg_add p x (omega arith)) in
        let D : Vect = add_multiple p c (Q i) P in
        let vD : IsVec p n D = vec_add_multiple p n c (Q i) P (omega arith) (rb.basis.vec i hi) vP in
        let rD : VanishesTo p n F j D = vanishes_add_multiple p n F j c (Q i) P (rb.basis.mem i hi) (vanishes_less p n F j P hP) in
        let bD : BelowWeight n b (weight n b i (e i)) D = reduce_one p n b c (Q i) P i (e i) hi (rb.basis.lead i hi).above ld.above q in
        let z : dot n D F j % p ≡ 0 = low_rel D vD rD bD j (omega arith) in
        let u : (dot n P F j % p + c * dot n (Q i) F j) % p ≡ 0 = mod-add-mod _ p _ ∙ sym (dot_add_multiple p n c (Q i) P F j) ∙ z in
        let v : (c * dot n (Q i) F j) % p ≡ 0 = rw (hP j (omega arith), zero-add) at u in
        let nz : c % p ≡ 0 = no_zero_div p pr (dot n (Q i) F j % p) c (mod-lt _ (omega arith)) (mod_mul_right p c _ ∙ v) fr.nonzero in
        neg_nonzero p x (vP.small i (e i)) ld.nonzero nz

    module _ {m : ℕ → ℕ} (hm : ClearsOrder p n F j Q i m) where
      abbrev R : ℕ → Vect
      R l = cleared_row p m Q i l

      pub cleared_vec : (l : ℕ) → l < n → IsVec p n (R l)
      cleared_vec l hl = vec_add_multiple p n (m l) (Q i) (Q l) (omega arith) (rb.basis.vec i hi) (rb.basis.vec l hl)

      cleared_member : (l : ℕ) → l < n → VanishesTo p n F (suc j) (R l)
      cleared_member l hl = vanishes_more p n F j (R l) (vanishes_add_multiple p n F j (m l) (Q i) (Q l) (rb.basis.mem i hi) (rb.basis.mem l hl)) (dot_add_multiple p n (m l) (Q i) (Q l) F j ∙ hm.clears l hl)

      pub cleared_pivot : (l : ℕ) → l < n → l ≢ i → R l l (e l) ≡ 1
      unfolding add_multiple
      cleared_pivot l hl ne =
          let z : Q i l (e l) ≡ 0 = rb.reduced.clear i l hi hl (λ q. ne (sym q)) (e l) (omega arith) in
          rw (rb.reduced.monic l hl, z, mul-zero, add-zero) (mod-eq_of_lt pr.above_one)

      -- where nothing is to be taken away, the factor is 0 mod p
      m_zero : (l : ℕ) → l < n → dot n (Q l) F j % p ≡ 0 → m l % p ≡ 0
      m_zero l hl z =
          let u : (dot n (Q l) F j % p + m l * dot n (Q i) F j) % p ≡ 0 = mod-add-mod _ p _ ∙ hm.clears l hl in
          let v : (m l * dot n (Q i) F j) % p ≡ 0 = rw (z, zero-add) at u in
          no_zero_div p pr (dot n (Q i) F j % p) (m l) (mod-lt _ (omega arith)) (mod_mul_right p (m l) _ ∙ v) fr.nonzero

      cleared_above : (l : ℕ) → l < n → BelowWeight n b (suc (weight n b l (e l))) (R l)
      unfolding add_multiple
      cleared_above l hl k t hk g = elim (ℕ_discrete (dot n (Q l) F j % p) 0) [
        | yes z ↦ drop_mult p (Q l k t) (m l) (Q i k t) (m_zero l hl z) ∙ rw ((rb.basis.lead l hl).above k t hk g) (zero-mod p)
        | no z ↦ let f : weight n b i (e i) ≤ weight n b l (e l) = fr.least l hl z in
            zero_add_multiple p (m l) _ _ ((rb.basis.lead l hl).above k t hk g) ((rb.basis.lead i hi).above k t hk (omega arith))
      ]

      cleared_column : (l k : ℕ) → l < n → k < n → l ≢ k → k ≢ i → (t : ℕ) → e k ≤ t → R l k t ≡ 0
      unfolding add_multiple
      cleared_column l k hl hk lk ki t g = zero_add_multiple p (m l) _ _ (rb.reduced.clear l k hl hk lk t g) (rb.reduced.clear i k hi hk (λ q. ki (sym q)) t g)

      cleared_column_i : (l : ℕ) → l < n → l ≢ i → (t : ℕ) → e i < t → R l i t ≡ 0
      unfolding add_multiple
      cleared_column_i l hl li t g = zero_add_multiple p (m l) _ _ (rb.reduced.clear l i hl hi li t (omega arith)) ((rb.basis.lead i hi).above i t hi (weight_lt n b i (e i) t (omega arith) g))

      module _ {a : ℕ → ℕ} (cl : ClearsColumns p n Q e i a) where
        abbrev T : Vect
        T = moved_row p n m a Q i

        shifted_vec : IsVec p n (times_x (Q i))
        shifted_vec = vec_times_x p n (Q i) (omega arith) (rb.basis.vec i hi)

        pub moved_vec : IsVec p n T
        moved_vec = add_multiples_keep p n (λ P. IsVec p n P) (λ c S P. vec_add_multiple p n c S P (omega arith)) n a R (times_x (Q i)) cleared_vec shifted_vec shifted_vec

        moved_member : VanishesTo p n F (suc j) T
        moved_member = add_multiples_keep p n (λ P. VanishesTo p n F (suc j) P) (λ c S P. vanishes_add_multiple p n F (suc j) c S P) n a R (times_x (Q i))
            cleared_member shifted_vec (vanishes_times_x p n F j (Q i) (rb.basis.mem i hi))

        pub moved_pivot : T i (suc (e i)) ≡ 1
        unfolding add_multiples times_x
        moved_pivot =
            let z : sum_to n (λ l. a l * R l i (suc (e i))) ≡ 0 = sum_all_zero n _ (λ l hl. elim (ℕ_discrete l i) [
              | yes q ↦ rw (q, cl.own) (zero-mul _)
              | no nq ↦ rw (cleared_column_i l hl nq (suc (e i)) (omega arith)) (mul-zero _)
            ]) in
            rw (rb.reduced.monic i hi, z) (mod-eq_of_lt pr.above_one)

        shifted_above : BelowWeight n b (suc (weight n b i (suc (e i)))) (times_x (Q i))
        shifted_above k t hk g = below_times_x n b (suc (weight n b i (e i))) (Q i) (rb.basis.lead i hi).above k t hk (omega (arith, weight_suc n b i (e i)))

        moved_term : (k t : ℕ) → k < n → weight n b i (suc (e i)) < weight n b k t → (l : ℕ) → l < n → (a l * R l k t) % p ≡ 0
        moved_term k t hk g l hl = elim (ℕ_discrete l i) [
          | yes q ↦ rw (q, cl.own, zero-mul) (zero-mod p)
          | no nq ↦ elim (dec_lt (weight n b i (suc (e i))) (weight n b l (e l))) [
            | yes h ↦ mult_zero p (a l) _ (rw (shifted_above l (e l) hl h, zero-add) at (cl.others l hl nq))
            | no h ↦ rw (cleared_above l hl k t hk (omega arith), mul-zero) (zero-mod p)
          ]
        ]

        moved_above : BelowWeight n b (suc (weight n b i (suc (e i)))) T
        unfolding add_multiples
        moved_above k t hk g =
            let z : times_x (Q i) k t ≡ 0 = shifted_above k t hk g in
            let y : sum_to n (λ l. a l * R l k t) % p ≡ 0 = sum_cong p n (λ l. a l * R l k t) (λ l. 0) (λ l hl. moved_term k t hk g l hl ∙ sym (zero-mod p)) ∙ rw sum_zero (zero-mod p) in
            rw (z, zero-add) y

        shifted_column : (k : ℕ) → k < n → k ≢ i → (t : ℕ) → e k < t → times_x (Q i) k t ≡ 0
        unfolding times_x
        shifted_column k hk ki zero g = refl
        shifted_column k hk ki (suc t) g = rb.reduced.clear i k hi hk (λ q. ki (sym q)) t (omega arith)

        moved_column : (k : ℕ) → k < n → k ≢ i → (t : ℕ) → e k ≤ t → T k t ≡ 0
        unfolding add_multiples
        moved_column k hk ki t g = elim (ℕ_discrete (e k) t) [
          | yes q ↦
              let y : sum_to n (λ l. a l * R l k t) ≡ a k = sum_single n _ k hk (λ l hl ne. other l hl ne) ∙ rw (← q) (rw (cleared_pivot k hk ki) (mul-one _)) in
              rw (y, ← q) (cl.others k hk ki)
          | no nq ↦
              let y : sum_to n (λ l. a l * R l k t) ≡ 0 = sum_all_zero n _ (λ l hl. elim (ℕ_discrete l k) [
                | yes r ↦ rw (r, cleared_above k hk k t hk (weight_lt n b k (e k) t (omega arith) (omega arith))) (mul-zero _)
                | no nr ↦ other l hl nr
              ]) in
              rw (y, add-zero, shifted_column k hk ki t (omega arith)) (zero-mod p)
        ]
          where
            other : (l : ℕ) → l < n → l ≢ k → a l * R l k t ≡ 0
            other l hl ne = elim (ℕ_discrete l i) [
              | yes q ↦ rw (q, cl.own) (zero-mul _)
              | no nq ↦ rw (cleared_column l k hl hk ne ki t g) (mul-zero _)
            ]

        module _ {N : ℕ → Vect} {e' : ℕ → ℕ} (st : Stepped p n m a Q e i N e') where
          each : (Z : ℕ → Vect → ℕ → Type 0) → Z i T (suc (e i)) → ((l : ℕ) → l < n → l ≢ i → Z l (R l) (e l)) → (l : ℕ) → l < n → Z l (N l) (e' l)
          each Z zi zl l hl = elim (ℕ_discrete l i) [
            | yes q ↦ subst (λ (x : ℕ). Z x (N x) (e' x)) (sym q) (subst₂ (λ (P : Vect) (d : ℕ). Z i P d) (sym st.row) (sym st.pivot) zi)
            | no nq ↦ subst₂ (λ (P : Vect) (d : ℕ). Z l P d) (sym (st.rows l hl nq)) (sym (st.pivots l hl nq)) (zl l hl nq)
          ]

          step_basis : WeightBasis p n b F (suc j) N e'
          step_basis = record {
            vec = each (λ l P d. IsVec p n P) moved_vec (λ l hl ne. cleared_vec l hl);
            mem = each (λ l P d. VanishesTo p n F (suc j) P) moved_member (λ l hl ne. cleared_member l hl);
            lead = each (λ l P d. LeadsAt n b P l d)
                (record { nonzero = λ z. let o : T i (suc (e i)) ≡ 1 = moved_pivot in omega arith; above = moved_above })
                (λ l hl ne. record { nonzero = λ z. let o : R l l (e l) ≡ 1 = cleared_pivot l hl ne in omega arith; above = cleared_above l hl });
            least = each (λ l P d. (S : Vect) → IsVec p n S → VanishesTo p n F (suc j) S → (d' : ℕ) → LeadsAt n b S l d' → d ≤ d')
                (λ S vS hS d' ld.
                let g : e i ≤ d' = rb.basis.least i hi S vS (vanishes_less p n F j S hS) d' ld in
                let h : e i ≢ d' = λ q. not_there S vS hS (rw q ld) in
                omega arith)
                (λ l hl ne S vS hS. rb.basis.least l hl S vS (vanishes_less p n F j S hS));
          }

          step_reduced : ReducedAt n N e'
          step_reduced = record {
            monic = each (λ l P d. P l d ≡ 1) moved_pivot cleared_pivot;
            clear = λ l k hl hk. each (λ l P d. l ≢ k → (t : ℕ) → e' k ≤ t → P k t ≡ 0)
                (λ ik t g. moved_column k hk (λ q. ik (sym q)) t (omega (arith, st.pivots k hk (λ q. ik (sym q)))))
                (λ l hl ne lk t g. elim (ℕ_discrete k i) [
                  | yes q ↦ clear_i l k hl lk q t g
                  | no nq ↦ cleared_column l k hl hk lk nq t (omega (arith, st.pivots k hk nq))
                ])
                l hl;
          }
            where
              clear_i : (l k : ℕ) → l < n → l ≢ k → k ≡ i → (t : ℕ) → e' k ≤ t → R l k t ≡ 0
              clear_i l k hl lk q t g = subst (λ (x : ℕ). l ≢ x → e' x ≤ t → R l x t ≡ 0) (sym q) (λ li g. cleared_column_i l hl li t (omega (arith, st.pivot))) lk g

          -- where row i moves
          pub step : ReducedBasis p n b F (suc j) N e'
          step = record { basis = step_basis; reduced = step_reduced }
