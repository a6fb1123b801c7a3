-- The theorems about relations, in the words of document 01: for every prime p, number of series n, series F, order s and type d.
--   0  order_zero, unit_basis, type_exists, shifted_exists
--   1  members_are_combinations, one_combination
--   2  reduced_basis_unique, same_relations_same_rows
--   3  step_unchanged, step_moves, reduced_basis_exists
--   4  shrinks_from, shrink_count (Shrink), pivot_degrees_add_up, basis_shrink_count
--   5  minimal_by_pivot_degrees
--   6  approximant_degree, approximant_entries, approximant_least, approximant_exists, approximant_unique
--   7  what proofs work with is what is defined: Bridge, and order_of_weights here
-- Pivots, least row and count are one each: degree_unique (Bridge), least_unique, least_row_same, count_unique (Shrink).
use mathlib.Core.Path.{◌≡◌, ap, sym, ◌∙◌, fun_ext, subst}
use mathlib.Core.Logic.{◌≢◌, inl, inr, ◌↔◌}
use Prim.Native.Nat.{ℕ, suc, ◌+◌, ◌-◌, ◌%◌, ◌≤◌, ◌<◌}
use native.Mathlib.Decide.{dec_lt}
use native.Mathlib.Omega.{arith}
use lib.IntN.{ℤ, pos, +ℤ_idl, -ℤ-+ℤ_cancel}
use Rattle.field.specs.Prime.{Prime}
use Rattle.relation.specs.Sum.{sum_to}
use Rattle.relation.specs.Product.{dot}
use Rattle.relation.specs.Vector.{Vect, IsVec, Nonzero}
use Rattle.relation.specs.Relation.{VanishesTo, Relation}
use Rattle.relation.specs.Degree.{Degree}
use lib.Signed.{◌≤ℤ◌}
use Rattle.relation.specs.ShiftedDegree.{shift, ShiftedDegree}
use Rattle.relation.specs.TypeOf.{TypeOf}
use Rattle.relation.specs.MinimalBasis.{MinimalBasis}
use Rattle.relation.specs.Pivot.{Pivot}
use Rattle.relation.specs.Reduced.{Reduced}
use Rattle.relation.specs.LeadingZeros.{LeadingZeros}
use Rattle.relation.specs.Shrink.{ShrinkCount}
use Rattle.relation.specs.Sigma.{sigma_of}
use Rattle.relation.specs.Approximant.{LeastRow, Approximant}
use Rattle.relation.specs.Combination.{Combination}
use Rattle.relation.specs.SameRelations.{SameRelations}
use Rattle.relation.proofs.Integer.{le_add, le_pos, cancel_le, le_trans, le_antisym}
use Rattle.relation.proofs.Shift.{Offset, offset, base, offsets, shift_le, shift_eq, lifted}
use Rattle.relation.specs.Weight.{weight}
use Rattle.relation.proofs.Weight.{weight_inj, vec_below, lead_exists, weight→order, order→weight}
use Rattle.relation.specs.ReducedBasis.{WeightBasis}
use Rattle.relation.proofs.Basis.{same_pivots}
use Rattle.relation.proofs.Start.{start}
use Rattle.relation.proofs.Generation.{generated, combination_vector, combination_vanishes, unique_combination}
use Rattle.relation.specs.Operations.{unit}
use Rattle.relation.specs.Moving.{FirstRow}
use Rattle.relation.proofs.Step.{ClearsOrder, ClearsColumns, Stepped, step_same, step}
use Rattle.relation.proofs.Existence.{find, solve, criterion, pivot_sum, rows→relations, relations→same_rows}
use Rattle.relation.proofs.Bridge.{shifted_unique, leads→type, type→leads, basis→minimal, basis→reduced, basis→pivot, basis→degree, basis→least, least→basis, minimal→basis, reduced→basis, pivots_exist}
use Rattle.relation.proofs.Shrink.{zeros_exist, basis→count}
use Rattle.relation.proofs.Sigma.{small_pivot}

-- V_0 is everything
pub order_zero : {p n : ℕ} {F P : Vect} → IsVec p n P → Relation p n F 0 P
order_zero vP = record { vector = vP; vanishes = λ k hk. absurd (omega arith) }

-- and the unit vectors are its reduced minimal basis, for every type
pub unit_basis : (p n : ℕ) (F : Vect) (d : ℕ → ℤ) → Prime p → MinimalBasis p n F 0 d unit × Reduced n unit
unit_basis p n F d pr =
    let s = start p n (offsets n d) F pr in
    (basis→minimal (offset n d) s.basis, basis→reduced s)

-- every nonzero vector has a type, and with it a shifted degree
pub type_exists : {p n : ℕ} (d : ℕ → ℤ) {P : Vect} → IsVec p n P → Nonzero n P → (i : ℕ) × TypeOf n d P i
type_exists {p} {n} d {P} vP nz =
    let b : ℕ → ℕ = offsets n d in
    let t = lead_exists n b _ P (vec_below p n b P vP) nz.0 nz.1 nz.2 nz.3 in
    (t.0, leads→type (offset n d) t.2 t.3)

pub shifted_exists : {p n : ℕ} (d : ℕ → ℤ) {P : Vect} → IsVec p n P → Nonzero n P → (δ : ℤ) × ShiftedDegree n d P δ
shifted_exists d vP nz = let t = type_exists d vP nz in (t.1.δ, t.1.degree)

-- a minimal basis in the working form, with its pivot degrees
working : {p n : ℕ} {F : Vect} {s : ℕ} {d : ℕ → ℤ} {Q : ℕ → Vect} → MinimalBasis p n F s d Q → (e : ℕ → ℕ) × WeightBasis p n (offsets n d) F s Q e
working {n} {d} mb = let e = pivots_exist mb in (e.0, minimal→basis (offset n d) mb e.1)

-- the rows are equal, coefficient by coefficient
abbrev pub SameRows : ℕ → (ℕ → Vect) → (ℕ → Vect) → Type 0
SameRows n Q Q' = (i : ℕ) → i < n → (k t : ℕ) → Q i k t ≡ Q' i k t

module _ {p n : ℕ} {F : Vect} {s : ℕ} {d : ℕ → ℤ} {Q : ℕ → Vect} (pr : Prime p) (mb : MinimalBasis p n F s d Q) where
  -- V_s is what the rows generate
  pub members_are_combinations : (P : Vect) → Relation p n F s P ↔ Combination p n Q P
  members_are_combinations P = (
    λ r. generated pr (working mb).1 P r.vector r.vanishes,
    λ c.
        let vec : (l : ℕ) → l < n → IsVec p n (Q l) = λ l hl. (mb.member l hl).vector in
        record { vector = combination_vector pr vec P c; vanishes = combination_vanishes pr vec P c F s (λ l hl. (mb.member l hl).vanishes) },
  )

  -- in exactly one way
  pub one_combination : (P : Vect) (c c' : Combination p n Q P) → c.by ≡ c'.by
  one_combination P c c' =
      let w = working mb in
      unique_combination pr w.1.vec w.1.lead c.by c'.by c.vector c'.vector (λ i k hi. sym (c.sum i k) ∙ c'.sum i k)

  pub pivot_degrees_add_up : (e : ℕ → ℕ) → ((i : ℕ) → i < n → Pivot Q i (e i)) → (m : ℕ) → LeadingZeros p n F s m → sum_to n e ≡ s - m
  pivot_degrees_add_up e pv m z =
      omega (arith, pivot_sum pr (minimal→basis (offset n d) mb pv) m z)

  -- the number of orders that make V smaller is the sum of the pivot degrees
  pub basis_shrink_count : (e : ℕ → ℕ) → ((i : ℕ) → i < n → Pivot Q i (e i)) → ShrinkCount p n F s (sum_to n e)
  basis_shrink_count e pv = basis→count pr (minimal→basis (offset n d) mb pv)

-- equal relations mean equal rows, and one V_s has one reduced minimal basis
pub same_rows : {p n : ℕ} {F G : Vect} {s : ℕ} {d : ℕ → ℤ} {Q Q' : ℕ → Vect}
    → MinimalBasis p n F s d Q → Reduced n Q → MinimalBasis p n G s d Q' → Reduced n Q' → SameRelations p n F G s → SameRows n Q Q'
same_rows {p} {n} {F} {G} {s} {d} {Q} {Q'} mb rd mb' rd' h i hi k t =
    let e = pivots_exist mb in
    let e' = pivots_exist mb' in
    let same : Q i ≡ Q' i = relations→same_rows (reduced→basis (offset n d) mb rd e.1) (reduced→basis (offset n d) mb' rd' e'.1)
    (λ P vP v. ((h P).0 (record { vector = vP; vanishes = v })).vanishes) (λ P vP v. ((h P).1 (record { vector = vP; vanishes = v })).vanishes) i hi in
    ap (λ (R : Vect). R k t) same

pub reduced_basis_unique : {p n : ℕ} {F : Vect} {s : ℕ} {d : ℕ → ℤ} {Q Q' : ℕ → Vect}
    → MinimalBasis p n F s d Q → Reduced n Q → MinimalBasis p n F s d Q' → Reduced n Q' → SameRows n Q Q'
reduced_basis_unique mb rd mb' rd' = same_rows mb rd mb' rd' (λ P. ((λ r. r), λ r. r))

pub same_relations_same_rows : {p n : ℕ} {F G : Vect} {s : ℕ} {d : ℕ → ℤ} {Q Q' : ℕ → Vect} → Prime p
    → MinimalBasis p n F s d Q → Reduced n Q → MinimalBasis p n G s d Q' → Reduced n Q' → SameRows n Q Q' ↔ SameRelations p n F G s
same_relations_same_rows {p} {n} {F} {G} {s} {d} {Q} {Q'} pr mb rd mb' rd' = (
  λ q P. (
    over F G Q Q' mb mb' q P,
    over G F Q' Q mb' mb (λ i hi k t. sym (q i hi k t)) P,
  ),
  same_rows mb rd mb' rd',
)
  where
    over : (F G : Vect) (Q Q' : ℕ → Vect) → MinimalBasis p n F s d Q → MinimalBasis p n G s d Q' → SameRows n Q Q' → (P : Vect) → Relation p n F s P → Relation p n G s P
    over F G Q Q' mb mb' q P r = record {
      vector = r.vector;
      vanishes = rows→relations pr (working mb).1 G s
          (λ i hi. subst (λ (R : Vect). VanishesTo p n G s R) (fun_ext λ k. fun_ext λ t. sym (q i hi k t)) (mb'.member i hi).vanishes) P r.vector r.vanishes;
    }

-- the row that moves from order j to j + 1: of those with a coefficient c_l that is not 0, the least by shifted degree e_l - d_l, then by number
pub record FirstByDegree (n : ℕ) (d : ℕ → ℤ) (e c : ℕ → ℕ) (i : ℕ) : Type 0 where
  pub row : i < n
  pub nonzero : c i ≢ 0
  pub least : (l : ℕ) → l < n → c l ≢ 0 → (shift d i (e i) ≤ℤ shift d l (e l)) × (shift d i (e i) ≡ shift d l (e l) → i ≤ l)

-- the order of weights is that of shifted degree and then index
pub order_of_weights : {n : ℕ} {d : ℕ → ℤ} {B : ℕ} {b : ℕ → ℕ} → Offset n d B b → (i e j k : ℕ) → i < n → j < n
    → (weight n b i e ≤ weight n b j k) ↔ ((shift d i e ≤ℤ shift d j k) × (shift d i e ≡ shift d j k → i ≤ j))
order_of_weights {n} {b} o i e j k hi hj = (
  λ h.
      let g = weight→order n b j k i e hj hi h in
      ((shift_le o i e j k hi hj).1 g.0, λ q. g.1 ((shift_eq o i e j k hi hj).0 q)),
  λ h. order→weight n b j k i e hj hi ((shift_le o i e j k hi hj).0 h.0) (λ q. h.1 ((shift_eq o i e j k hi hj).1 q)),
)

-- one order more: c_l is the coefficient of X^j in row l times the series
module _ {p n : ℕ} {F : Vect} {j : ℕ} {d : ℕ → ℤ} {Q : ℕ → Vect} (pr : Prime p) (mb : MinimalBasis p n F j d Q) (rd : Reduced n Q) where
  pub step_unchanged : ((l : ℕ) → l < n → dot n (Q l) F j % p ≡ 0) → MinimalBasis p n F (suc j) d Q
  step_unchanged z =
      let e = pivots_exist mb in
      basis→minimal (offset n d) (step_same pr (reduced→basis (offset n d) mb rd e.1) z).basis

  pub step_moves : {e : ℕ → ℕ} → ((l : ℕ) → l < n → Pivot Q l (e l)) → {i : ℕ} → FirstByDegree n d e (λ l. dot n (Q l) F j % p) i
      → {m a : ℕ → ℕ} → ClearsOrder p n F j Q i m → ClearsColumns p n Q e i a → {N : ℕ → Vect} {e' : ℕ → ℕ} → Stepped p n m a Q e i N e'
      → MinimalBasis p n F (suc j) d N × Reduced n N × ((l : ℕ) → l < n → Pivot N l (e' l))
  step_moves {e} pv {i} fd co cl st =
      let fr : FirstRow n (λ l. dot n (Q l) F j % p) (λ l. weight n (offsets n d) l (e l)) i = record {
        row< = fd.row;
        nonzero = fd.nonzero;
        least = λ l hl nz. (order_of_weights (offset n d) i (e i) l (e l) fd.row hl).1 (fd.least l hl nz);
      } in
      let rb = step pr (reduced→basis (offset n d) mb rd pv) fr co cl st in
      (basis→minimal (offset n d) rb.basis, basis→reduced rb, basis→pivot rb.basis)

pub reduced_basis_exists : (p n : ℕ) (F : Vect) (s : ℕ) (d : ℕ → ℤ) → Prime p → (Q : ℕ → Vect) × MinimalBasis p n F s d Q × Reduced n Q
reduced_basis_exists p n F s d pr =
    let S = solve p n (offsets n d) F pr s in
    (S.rows, basis→minimal (offset n d) S.basis.basis, basis→reduced S.basis)

-- the criterion
pub minimal_by_pivot_degrees : {p n : ℕ} {F : Vect} {s m : ℕ} {d : ℕ → ℤ} {Q : ℕ → Vect} {e : ℕ → ℕ} → Prime p
    → ((i : ℕ) → i < n → Relation p n F s (Q i)) → ((i : ℕ) → i < n → TypeOf n d (Q i) i)
    → ((i : ℕ) → i < n → Pivot Q i (e i)) → LeadingZeros p n F s m → sum_to n e ≡ s - m → MinimalBasis p n F s d Q
minimal_by_pivot_degrees {n} {d} {Q} pr rel ty pv z sum =
    basis→minimal (offset n d) (criterion pr z (omega arith) (λ i hi. (rel i hi).vector) (λ i hi. (rel i hi).vanishes)
    (λ i hi. type→leads (offset n d) (rel i hi).vector (ty i hi) (pv i hi)))

-- there is one least row
pub least_unique : {n : ℕ} {d : ℕ → ℤ} {Q : ℕ → Vect} {i j : ℕ} → LeastRow n d Q i → LeastRow n d Q j → i ≡ j
least_unique {n} {d} {Q} {i} {j} a c =
    let q : a.δ ≡ c.δ = le_antisym a.δ c.δ (a.least j c.δ c.row c.degree) (c.least i a.δ a.row a.degree) in
    elim (dec_lt i j) [
      | yes g ↦ absurd (c.lowest i a.row g (rw (← q) a.degree))
      | no g ↦ elim (dec_lt j i) [
        | yes h ↦ absurd (a.lowest j c.row h (rw q c.degree))
        | no h ↦ omega arith
      ]
    ]

pub least_exists : {p n : ℕ} {F : Vect} {s : ℕ} {d : ℕ → ℤ} {Q : ℕ → Vect} → 0 < n → MinimalBasis p n F s d Q → (i : ℕ) × LeastRow n d Q i
least_exists {n} {d} hn mb =
    let w = working mb in
    elim (find n (λ l. 1) (λ l. weight n (offsets n d) l (w.0 l))) [
      | inl z ↦ absurd (let q : ◌≡◌ {A = ℕ} 1 0 = z 0 hn in omega arith)
      | inr f ↦ (f.0, basis→least (offset n d) w.1 f.0 f.1.row< (λ l hl. f.1.least l hl (omega arith)))
    ]

-- and it has the same number in every minimal basis of V_s
pub least_row_same : {p n : ℕ} {F : Vect} {s : ℕ} {d : ℕ → ℤ} {Q Q' : ℕ → Vect} {i j : ℕ} → MinimalBasis p n F s d Q → MinimalBasis p n F s d Q'
    → LeastRow n d Q i → LeastRow n d Q' j → i ≡ j
least_row_same {n} {d} {i} {j} mb mb' a c =
    let w = working mb in
    let w' = working mb' in
    let b : ℕ → ℕ = offsets n d in
    let u : weight n b i (w.0 i) ≤ weight n b j (w.0 j) = least→basis (offset n d) w.1 i a j c.row in
    let v : weight n b j (w'.0 j) ≤ weight n b i (w'.0 i) = least→basis (offset n d) w'.1 j c i a.row in
    let v' : weight n b j (w.0 j) ≤ weight n b i (w.0 i) = rw (same_pivots w.1 w'.1 i a.row, same_pivots w.1 w'.1 j c.row) v in
    (weight_inj n b i (w.0 i) j (w.0 j) a.row c.row (omega arith)).0

-- the approximant of type d
module _ {p n : ℕ} {F : Vect} {d : ℕ → ℤ} {σ : ℕ} {Q : ℕ → Vect} {i : ℕ} (pr : Prime p) (x : Approximant p n F d σ Q i) where
  -- its shifted degree is at most 0
  pub approximant_degree : x.least.δ ≤ℤ pos 0
  approximant_degree =
      let w = working x.basis in
      let z = zeros_exist p n F pr σ in
      let hi : i < n = x.least.row in
      let l = small_pivot (offset n d) σ x.order w.0 (omega (arith, pivot_sum pr w.1 z.0 z.1)) in
      let g : w.0 i + offsets n d i ≤ base n d = omega (
        arith,
        l.2,
        (weight→order n (offsets n d) l.0 (w.0 l.0) i (w.0 i) l.1 hi (least→basis (offset n d) w.1 i x.least l.0 l.1)).0,
      ) in
      rw (shifted_unique x.least.degree (basis→degree (offset n d) w.1 i hi))
      (cancel_le (shift d i (w.0 i)) (pos 0) (pos (base n d)) (rw (lifted (offset n d) i (w.0 i) hi, +ℤ_idl (pos (base n d))) (le_pos (w.0 i + offsets n d i) (base n d) g)))

  -- each entry k has degree at most d_k
  pub approximant_entries : (k t : ℕ) → k < n → Degree (Q i k) t → pos t ≤ℤ d k
  approximant_entries k t hk dg =
      let h : shift d k t ≤ℤ pos 0 = le_trans (shift d k t) x.least.δ (pos 0) (x.least.degree.largest k t hk dg) approximant_degree in
      rw (-ℤ-+ℤ_cancel (pos t) (d k), +ℤ_idl (d k)) at (le_add (shift d k t) (pos 0) (d k) h)

  -- no nonzero member of V_σ has a smaller shifted degree
  pub approximant_least : (P : Vect) → Relation p n F σ P → Nonzero n P → (ε : ℤ) → ShiftedDegree n d P ε → x.least.δ ≤ℤ ε
  approximant_least P r nz ε dP =
      let w = working x.basis in
      let t = type_exists d r.vector nz in
      let ht : t.0 < n = t.1.index in
      let row : ShiftedDegree n d (Q t.0) (shift d t.0 (w.0 t.0)) = basis→degree (offset n d) w.1 t.0 ht in
      le_trans x.least.δ (shift d t.0 (w.0 t.0)) ε (x.least.least t.0 _ ht row)
      (x.basis.least t.0 ht P r nz t.1 _ ε row dP)

pub approximant_exists : (p n : ℕ) (F : Vect) (d : ℕ → ℤ) (σ : ℕ) → Prime p → 0 < n → pos σ ≡ sigma_of n d → (Q : ℕ → Vect) × (i : ℕ) × Approximant p n F d σ Q i
approximant_exists p n F d σ pr hn order =
    let Q = reduced_basis_exists p n F σ d pr in
    let i = least_exists hn Q.1 in
    (Q.0, i.0, record { order = order; basis = Q.1; reduced = Q.2; least = i.1 })

pub approximant_unique : {p n : ℕ} {F : Vect} {d : ℕ → ℤ} {σ : ℕ} {Q Q' : ℕ → Vect} {i j : ℕ}
    → Approximant p n F d σ Q i → Approximant p n F d σ Q' j → (i ≡ j) × ((k t : ℕ) → Q i k t ≡ Q' j k t)
approximant_unique {Q} {Q'} {i} {j} a c =
    let q : i ≡ j = least_row_same a.basis c.basis a.least c.least in
    let same = reduced_basis_unique a.basis a.reduced c.basis c.reduced in
    (q, λ k t. same i a.least.row k t ∙ ap (λ (l : ℕ). Q' l k t) q)
