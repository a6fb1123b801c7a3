-- The working form agrees with document 01's wording. Let b_i = B - d_i for some B (Offset; Shift has one for every type).
--   degree-*, shifted_unique     degrees: there is one, and only one
--   leads→shifted, leads→type    the leading position gives the shifted degree and the type
--   type→leads                   and the type with its degree is the leading position
--   basis→*, minimal→basis, ..   minimal basis, pivot degree, reduced, least row, both ways
use mathlib.Core.Path.{◌≡◌, refl, ap, ◌∙◌}
use mathlib.Core.Logic.{◌≢◌, ◌⊎◌, inl, inr}
use Prim.Native.Nat.{ℕ, zero, suc, ◌+◌, ◌≤◌, ◌<◌}
use native.Mathlib.Decide.{ℕ_discrete, dec_le, dec_lt}
use native.Mathlib.Omega.{arith}
use lib.IntN.{ℤ}
use Rattle.relation.specs.Vector.{Vect, IsVec}
use Rattle.relation.specs.Degree.{Degree, DegreeBelow}
use lib.Signed.{◌≤ℤ◌}
use Rattle.relation.specs.ShiftedDegree.{shift, ShiftedDegree}
use Rattle.relation.specs.TypeOf.{TypeOf}
use Rattle.relation.specs.MinimalBasis.{MinimalBasis}
use Rattle.relation.specs.Pivot.{Pivot}
use Rattle.relation.specs.Reduced.{Reduced}
use Rattle.relation.specs.Approximant.{LeastRow}
use Rattle.relation.proofs.Integer.{le_antisym}
use Rattle.relation.proofs.Shift.{Offset, shift_le, shift_eq}
use Rattle.relation.specs.Weight.{weight, LeadsAt}
use Rattle.relation.proofs.Weight.{weight_le, weight_lt, weight→order, order→weight}
use Rattle.relation.specs.ReducedBasis.{WeightBasis, ReducedAt, ReducedBasis}

pub degree_unique : {f : ℕ → ℕ} {e k : ℕ} → Degree f e → Degree f k → e ≡ k
degree_unique {f} {e} {k} a c = elim (dec_lt e k) [
  | yes g ↦ absurd (c.leading (a.above k g))
  | no g ↦ elim (dec_lt k e) [
    | yes h ↦ absurd (a.leading (c.above e h))
    | no h ↦ omega arith
  ]
]

-- a coefficient that is not 0 lies at or below the degree
pub degree_exists : (f : ℕ → ℕ) (N : ℕ) → ((t : ℕ) → N ≤ t → f t ≡ 0) → (k : ℕ) → f k ≢ 0 → (e : ℕ) × (k ≤ e) × Degree f e
degree_exists f zero z k nz = absurd (nz (z k (omega arith)))
degree_exists f (suc N) z k nz = elim (ℕ_discrete (f N) 0) [
  | yes q ↦ degree_exists f N (λ t ht. elim (ℕ_discrete t N) [ yes r ↦ rw r q | no nr ↦ z t (omega arith) ]) k nz
  | no nq ↦ (
    N,
    elim (dec_le k N) [ yes g ↦ g | no g ↦ absurd (nz (z k (omega arith))) ],
    record { leading = nq; above = λ t ht. z t ht },
  )
]

-- "zero or of degree below e" in the words of document 01
pub degree_below : (f : ℕ → ℕ) (N : ℕ) → ((t : ℕ) → N ≤ t → f t ≡ 0) → (e : ℕ) → DegreeBelow f e
    → ((t : ℕ) → f t ≡ 0) ⊎ ((k : ℕ) × Degree f k × (k < e))
degree_below f zero z e h = inl (λ t. z t (omega arith))
degree_below f (suc N) z e h = elim (ℕ_discrete (f N) 0) [
  | yes q ↦ degree_below f N (λ t ht. elim (ℕ_discrete t N) [ yes r ↦ rw r q | no nr ↦ z t (omega arith) ]) e h
  | no nq ↦ inr (N, record { leading = nq; above = λ t ht. z t ht }, elim (dec_lt N e) [ yes g ↦ g | no g ↦ absurd (nq (h N (omega arith))) ])
]

pub below_degree : (f : ℕ → ℕ) (e : ℕ) → ((t : ℕ) → f t ≡ 0) ⊎ ((k : ℕ) × Degree f k × (k < e)) → DegreeBelow f e
below_degree f e (inl z) t ht = z t
below_degree f e (inr k) t ht = k.1.above t (omega (arith, k.2))

pub shifted_unique : {n : ℕ} {d : ℕ → ℤ} {P : Vect} {δ ε : ℤ} → ShiftedDegree n d P δ → ShiftedDegree n d P ε → δ ≡ ε
shifted_unique {n} {d} {P} {δ} {ε} a c = le_antisym δ ε (half δ ε a c) (half ε δ c a)
  where
    half : (x y : ℤ) → ShiftedDegree n d P x → ShiftedDegree n d P y → x ≤ℤ y
    half x y u v =
        let i = u.attained in
        rw i.2.shifted at (v.largest i.0 i.2.deg i.1 i.2.degree)

pub leads→degree : {n : ℕ} {b : ℕ → ℕ} {P : Vect} {i e : ℕ} → i < n → LeadsAt n b P i e → Degree (P i) e
leads→degree {n} {b} {i} {e} hi ld = record { leading = ld.nonzero; above = λ t g. ld.above i t hi (weight_lt n b i e t (omega arith) g) }

-- every nonzero position weighs at most the leading one
lead_weight : {n : ℕ} {b : ℕ → ℕ} {P : Vect} {i e : ℕ} → LeadsAt n b P i e → (j k : ℕ) → j < n → P j k ≢ 0 → weight n b j k ≤ weight n b i e
lead_weight {n} {b} {i} {e} ld j k hj nz = elim (dec_le (weight n b j k) (weight n b i e)) [ yes g ↦ g | no g ↦ absurd (nz (ld.above j k hj (omega arith))) ]

module _ {n : ℕ} {d : ℕ → ℤ} {B : ℕ} {b : ℕ → ℕ} (o : Offset n d B b) where
  pub leads→shifted : {P : Vect} {i e : ℕ} → i < n → LeadsAt n b P i e → ShiftedDegree n d P (shift d i e)
  leads→shifted {P} {i} {e} hi ld = record {
    attained = (i, hi, record { deg = e; degree = leads→degree hi ld; shifted = refl });
    largest = λ j k hj dg. (shift_le o j k i e hj hi).1 (weight→order n b i e j k hi hj (lead_weight ld j k hj dg.leading)).0;
  }

  pub leads→type : {P : Vect} {i e : ℕ} → i < n → LeadsAt n b P i e → TypeOf n d P i
  leads→type {P} {i} {e} hi ld = record {
    δ = shift d i e;
    degree = leads→shifted hi ld;
    index = hi;
    attains = record { deg = e; degree = leads→degree hi ld; shifted = refl };
    last = λ k hk ik a.
        let q : a.deg + b k ≡ e + b i = (shift_eq o k a.deg i e hk hi).0 a.shifted in
        omega (arith, (weight→order n b i e k a.deg hi hk (lead_weight ld k a.deg hk a.degree.leading)).1 q);
  }

  pub type→leads : {p : ℕ} {P : Vect} {i e : ℕ} → IsVec p n P → TypeOf n d P i → Degree (P i) e → LeadsAt n b P i e
  type→leads {p} {P} {i} {e} vP ty dg = record {
    nonzero = dg.leading;
    above = λ j k hj g. elim (ℕ_discrete (P j k) 0) [ yes q ↦ q | no nz ↦ absurd (no_more j k hj g nz) ];
  }
    where
      -- the shifted degree is that of entry i
      is : shift d i e ≡ ty.δ
      is = ap (λ (x : ℕ). shift d i x) (degree_unique dg ty.attains.degree) ∙ ty.attains.shifted

      no_more : (j k : ℕ) → j < n → weight n b i e < weight n b j k → P j k ≢ 0 → ⊥
      no_more j k hj g nz =
          let t = degree_exists (P j) vP.bound (λ t ht. vP.high j t ht) k nz in
          let le : t.0 + b j ≤ e + b i = (shift_le o j t.0 i e hj ty.index).0 (rw is (ty.degree.largest j t.0 hj t.2)) in
          let tie : t.0 + b j ≡ e + b i → j ≤ i = λ q. elim (dec_le j i) [
            | yes r ↦ r
            | no r ↦ absurd (ty.last j hj (omega arith) (record { deg = t.0; degree = t.2; shifted = (shift_eq o j t.0 i e hj ty.index).1 q ∙ is }))
          ] in
          omega (arith, order→weight n b i e j t.0 ty.index hj le tie, weight_le n b j k t.0 t.1)

  module _ {p : ℕ} {F : Vect} {s : ℕ} {Q : ℕ → Vect} where
    pub basis→degree : {e : ℕ → ℕ} → WeightBasis p n b F s Q e → (i : ℕ) → i < n → ShiftedDegree n d (Q i) (shift d i (e i))
    basis→degree wb i hi = leads→shifted hi (wb.lead i hi)

    pub basis→minimal : {e : ℕ → ℕ} → WeightBasis p n b F s Q e → MinimalBasis p n F s d Q
    basis→minimal {e} wb = record {
      member = λ i hi. record { vector = wb.vec i hi; vanishes = wb.mem i hi };
      nonzero = λ i hi. (i, e i, hi, (wb.lead i hi).nonzero);
      types = λ i hi. leads→type hi (wb.lead i hi);
      least = λ i hi P r nz ty δ ε dQ dP.
          let t : ℕ = ty.attains.deg in
          let ld : LeadsAt n b P i t = type→leads r.vector ty ty.attains.degree in
          let g : e i ≤ t = wb.least i hi P r.vector r.vanishes t ld in
          rw (shifted_unique dQ (basis→degree wb i hi), shifted_unique dP (leads→shifted hi ld))
          ((shift_le o i (e i) i t hi hi).1 (omega arith));
    }

    pub minimal→basis : {e : ℕ → ℕ} → MinimalBasis p n F s d Q → ((i : ℕ) → i < n → Pivot Q i (e i)) → WeightBasis p n b F s Q e
    minimal→basis {e} mb pv = record {
      vec = λ i hi. (mb.member i hi).vector;
      mem = λ i hi. (mb.member i hi).vanishes;
      lead = lead;
      least = λ i hi P vP mP t ld.
          let h : shift d i (e i) ≤ℤ shift d i t = mb.least i hi P (record { vector = vP; vanishes = mP }) (i, t, hi, ld.nonzero) (leads→type hi ld)
          (shift d i (e i)) (shift d i t) (leads→shifted hi (lead i hi)) (leads→shifted hi ld) in
          omega (arith, (shift_le o i (e i) i t hi hi).0 h);
    }
      where
        lead : (i : ℕ) → i < n → LeadsAt n b (Q i) i (e i)
        lead i hi = type→leads (mb.member i hi).vector (mb.types i hi) (pv i hi)

    -- the least row by weight is the least by shifted degree, and lowest on a tie
    pub basis→least : {e : ℕ → ℕ} → WeightBasis p n b F s Q e → (i : ℕ) → i < n → ((l : ℕ) → l < n → weight n b i (e i) ≤ weight n b l (e l)) → LeastRow n d Q i
    basis→least {e} wb i hi h = record {
      row = hi;
      δ = shift d i (e i);
      degree = basis→degree wb i hi;
      least = λ l ε hl dg. rw (shifted_unique dg (basis→degree wb l hl)) ((shift_le o i (e i) l (e l) hi hl).1 (weight→order n b l (e l) i (e i) hl hi (h l hl)).0);
      lowest = λ l hl li dg.
          let q : e i + b i ≡ e l + b l = (shift_eq o i (e i) l (e l) hi hl).0 (shifted_unique dg (basis→degree wb l hl)) in
          omega (arith, (weight→order n b l (e l) i (e i) hl hi (h l hl)).1 q);
    }

    pub least→basis : {e : ℕ → ℕ} → WeightBasis p n b F s Q e → (i : ℕ) → LeastRow n d Q i → (l : ℕ) → l < n → weight n b i (e i) ≤ weight n b l (e l)
    least→basis {e} wb i lr l hl =
        let hi : i < n = lr.row in
        let is : lr.δ ≡ shift d i (e i) = shifted_unique lr.degree (basis→degree wb i hi) in
        order→weight n b l (e l) i (e i) hl hi ((shift_le o i (e i) l (e l) hi hl).0 (rw (← is) (lr.least l (shift d l (e l)) hl (basis→degree wb l hl))))
        (λ q. elim (dec_le i l) [
          | yes g ↦ g
          | no g ↦ absurd (lr.lowest l hl (omega arith) (rw (is, (shift_eq o i (e i) l (e l) hi hl).1 q) (basis→degree wb l hl)))
        ])

pub basis→pivot : {p n : ℕ} {b : ℕ → ℕ} {F : Vect} {s : ℕ} {Q : ℕ → Vect} {e : ℕ → ℕ} → WeightBasis p n b F s Q e → (i : ℕ) → i < n → Pivot Q i (e i)
basis→pivot wb i hi = leads→degree hi (wb.lead i hi)

pub reduced→at : {n : ℕ} {Q : ℕ → Vect} {e : ℕ → ℕ} → Reduced n Q → ((i : ℕ) → i < n → Pivot Q i (e i)) → ReducedAt n Q e
reduced→at {e} rd pv = record {
  monic = λ i hi. rd.monic i (e i) hi (pv i hi);
  clear = λ l k hl hk ne. rd.below l k (e k) hl hk ne (pv k hk);
}

pub basis→reduced : {p n : ℕ} {b : ℕ → ℕ} {F : Vect} {s : ℕ} {Q : ℕ → Vect} {e : ℕ → ℕ} → ReducedBasis p n b F s Q e → Reduced n Q
basis→reduced {Q} {e} rb = record {
  monic = λ i t hi pv. rw (degree_unique pv (basis→pivot rb.basis i hi)) (rb.reduced.monic i hi);
  below = λ l k t hl hk ne pv x g. rb.reduced.clear l k hl hk ne x (omega (arith, degree_unique pv (basis→pivot rb.basis k hk)));
}

pub reduced→basis : {p n : ℕ} {F : Vect} {s : ℕ} {d : ℕ → ℤ} {Q : ℕ → Vect} {e : ℕ → ℕ} {B : ℕ} {b : ℕ → ℕ} → Offset n d B b → MinimalBasis p n F s d Q → Reduced n Q
    → ((i : ℕ) → i < n → Pivot Q i (e i)) → ReducedBasis p n b F s Q e
reduced→basis o mb rd pv = record { basis = minimal→basis o mb pv; reduced = reduced→at rd pv }

-- the pivot degrees of a minimal basis
pub pivots_exist : {p n : ℕ} {F : Vect} {s : ℕ} {d : ℕ → ℤ} {Q : ℕ → Vect} → MinimalBasis p n F s d Q → (e : ℕ → ℕ) × ((i : ℕ) → i < n → Pivot Q i (e i))
pivots_exist {n} {Q} mb = ((λ i. at i (dec_lt i n)), λ i hi. is i hi (dec_lt i n))
  where
    at : (i : ℕ) → Dec (i < n) → ℕ
    at i (yes hi) = (mb.types i hi).attains.deg
    at i (no g) = 0

    is : (i : ℕ) → i < n → (c : Dec (i < n)) → Pivot Q i (at i c)
    is i hi (yes g) = (mb.types i g).attains.degree
    is i hi (no g) = absurd (g hi)
