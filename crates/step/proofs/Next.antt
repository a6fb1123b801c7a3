-- From the parts of a step to the theorem: the shape of the rows, the factors that clear, and the basis of the next order.
use mathlib.Core.Path.{◌≡◌, refl, ap, sym, ◌∙◌}
use mathlib.Core.Logic.{◌≢◌}
use mathlib.Core.List.{List}
use Prim.Native.Nat.{ℕ, zero, suc, ◌+◌, ◌*◌, ◌-◌, ◌%◌, ◌≤◌, ◌<◌}
use native.Mathlib.Nat.{add-mul, add-mod, add-mod-mod, mod-add-mod, mul_assoc, mul_comm, one-mul, zero-add, mod_self}
use native.Mathlib.Numerals.{add-one}
use native.Mathlib.Omega.{arith}
use lib.ListN.{length, get_or, set, replicate}
use lib.Seq.{get_or-set_same, get_or-set_other}
use Rattle.field.specs.Prime.{Prime}
use Rattle.field.specs.Inverse.{Inverse}
use Rattle.field.proofs.Residue.{mod_mul_left, mod_mul_right, mult_zero}
use Rattle.relation.specs.Product.{dot}
use Rattle.relation.specs.Vector.{Vect}
use Rattle.relation.specs.Operations.{times_x}
use Rattle.relation.specs.Weight.{weight}
use Rattle.relation.specs.ReducedBasis.{ReducedBasis}
use Rattle.relation.specs.Moving.{FirstRow}
use Rattle.relation.proofs.Step.{ClearsOrder, ClearsColumns, step, step_same}
use Rattle.relation.proofs.Existence.{entry_short}
use Rattle.degree.specs.declared.Degree.{Degree}
use Rattle.row.specs.View.{degree_at}
use Rattle.step.specs.Factor.{factor, column_factor, BasisShape, Moved}
use Rattle.step.proofs.Columns.{factor_own, factor_other}
use Rattle.step.proofs.Move.{times_x_below}

-- 1 less the product with the inverse
cancels : (p g c : ℕ) → g ≤ p → (c * g) % p ≡ 1 → (1 + (p - g) * c) % p ≡ 0
cancels p g c h e =
    let s : c * g + (p - g) * c ≡ p * c = omega (arith, mul_comm c g, mul_sub_self p g c h) in
    ap (λ (x : ℕ). (x + (p - g) * c) % p) (sym e) ∙ mod-add-mod (c * g) p ((p - g) * c) ∙ rw s (mult_zero p p c (mod_self p))
  where
    mul_sub_self : (p g c : ℕ) → g ≤ p → g * c + (p - g) * c ≡ p * c
    mul_sub_self p g c h = sym (add-mul g (p - g) c) ∙ (let q : g + (p - g) ≡ p = omega arith in rw q)

-- the factor takes the coefficient D of a row away, by that of the pivot row, E
pub clears : (p g c e D E : ℕ) → g ≤ p → c ≡ D % p → e ≡ E % p → (e * g) % p ≡ 1 → (D + (0 + c * (p - g)) % p * E) % p ≡ 0
clears p g c e D E h qc qe inv =
    let x : ℕ = 0 + c * (p - g) in
    let u : (x % p * E) % p ≡ (x * e) % p = mod_mul_left p x E ∙ sym (mod_mul_right p x E) ∙ rw qe in
    let v : c + x * e ≡ (1 + (p - g) * e) * c = rw (zero-add, mul_assoc) (omega (arith, add-mul 1 ((p - g) * e) c, one-mul c, mul_comm c ((p - g) * e))) in
    add-mod D (x % p * E) p ∙ rw (u, ← qc) (add-mod-mod c (x * e) p ∙ rw v (mult_zero p (1 + (p - g) * e) c (cancels p g e h inv)))

module _ {p n : ℕ} {b : ℕ → ℕ} {F : Vect} {at : ℕ} {Q : ℕ → Vect} {e : ℕ → ℕ} (pr : Prime p) (rb : ReducedBasis p n b F at Q e) where
  pub shape : BasisShape p n Q e
  shape = record {
    small = λ l h. (rb.basis.vec l h).small;
    ends = λ l h k hk t g. entry_short rb l k h hk t g;
    clear = λ l k hl hk ne. rb.reduced.clear l k hl hk ne (e k) (omega arith);
  }

  module _ (c : ℕ → ℕ) (coefficient : (l : ℕ) → l < n → c l ≡ dot n (Q l) F at % p) where
    pub next_same : ((l : ℕ) → l < n → c l ≡ 0) → ReducedBasis p n b F (at + 1) Q e
    next_same z = rw add-one (step_same pr rb (λ l h. sym (coefficient l h) ∙ z l h))

    pub next_moved : (i g : ℕ) (N : ℕ → Vect) (e' : ℕ → ℕ) → FirstRow n c (λ l. weight n b l (e l)) i → Inverse p (c i) g
        → Moved p n (factor p (p - g) c) e i Q N → e' i ≡ suc (e i) → ((l : ℕ) → l < n → l ≢ i → e' l ≡ e l)
        → ReducedBasis p n b F (at + 1) N e'
    unfolding factor
    next_moved i g N e' first inv moved pivot pivots =
        let i<n : i < n = first.row< in
        let small : (l : ℕ) → times_x (Q i) l (e l) < p = λ l. times_x_below p (Q i) (omega (arith, pr.above_one)) (shape.small i i<n) l (e l) in
        let frst : FirstRow n (λ l. dot n (Q l) F at % p) (λ l. weight n b l (e l)) i = record {
          row< = i<n;
          nonzero = λ z. first.nonzero (coefficient i i<n ∙ z);
          least = λ l h nz. first.least l h (λ z. nz (sym (coefficient l h) ∙ z));
        } in
        let order : ClearsOrder p n F at Q i (factor p (p - g) c) = record {
          clears = λ l h. clears p g (c l) (c i) (dot n (Q l) F at) (dot n (Q i) F at) (omega (arith, inv.below)) (coefficient l h) (coefficient i i<n) inv.product;
        } in
        let columns : ClearsColumns p n Q e i (column_factor p i e (times_x (Q i))) = record {
          own = factor_own p i e Q (times_x (Q i)) i refl;
          others = λ l h ne. rw (factor_other p i e Q (times_x (Q i)) l ne)
              (let q : times_x (Q i) l (e l) + (p - times_x (Q i) l (e l)) ≡ p = omega (arith, small l) in rw q (mod_self p));
        } in
        rw add-one (step pr rb frst order columns (record { pivot = pivot; pivots = pivots; row = moved.row; rows = moved.rows }))

abbrev pub degree : ℕ → Degree
degree e = record { 0 = e }

-- the pivot degrees after row i moved
pub raised : (tops : List Degree) (i e : ℕ) → i < length tops → e ≡ degree_at tops i → degree_at (set tops i (record { 0 = e + 1 })) i ≡ suc (degree_at tops i)
raised tops i e h q = ap (λ (d : Degree). d.0) (get_or-set_same tops i (record { 0 = e + 1 }) (record { 0 = 0 }) h) ∙ rw (← q) (add-one e)

pub kept : (tops : List Degree) (i l : ℕ) (d : Degree) → l ≢ i → degree_at (set tops i d) l ≡ degree_at tops l
kept tops i l d ne = ap (λ (x : Degree). x.0) (get_or-set_other tops i l d (record { 0 = 0 }) ne)

-- a list of one value has it everywhere, and past its end
pub replicate_all : {A : Type 0} (n l : ℕ) (a : A) → get_or (replicate n a) l a ≡ a
replicate_all zero l a = refl
replicate_all (suc n) zero a = refl
replicate_all (suc n) (suc l) a = replicate_all n l a

-- at order 0 every pivot degree is 0
pub no_degrees : (n l : ℕ) → degree_at (replicate n (degree 0)) l ≡ 0
no_degrees n l = ap (λ (d : Degree). d.0) (replicate_all n l (degree 0))
