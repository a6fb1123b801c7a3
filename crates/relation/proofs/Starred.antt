-- Every starred case holds: one test, computed over the whole table, that shows the definitions.
--   prime_test, vector_test, lead_test, zeros_test   prime; vector; leading position; common leading zeros
--   minimal_test, answer_test                      a minimal basis, by the criterion; an answer
--   pair_of_test, case_test                         the pair of a least row; a case
--   starred_hold                                 the statement
-- And three answers that are wrong or not reduced.
use mathlib.Core.Path.{◌≡◌, refl, sym, fun_ext}
use mathlib.Core.Logic.{◌≢◌, ◌⊎◌, inl, inr}
use mathlib.Core.List.{List, [], ◌∷◌, map}
use Prim.Native.Nat.{ℕ, zero, suc, ◌*◌, ◌-◌, ◌%◌, ◌≤◌, ◌<◌}
use native.Mathlib.Nat.{mul-mod_right, mul-zero, zero-mul, zero-mod, le-mul_of_pos_right}
use native.Mathlib.Decide.{ℕ_discrete, dec_lt}
use native.Mathlib.Omega.{arith}
use lib.IntN.{ℤ, pos}
use lib.ListN.{length, get_or, get_or-eq_default, get_or-map}
use Rattle.field.specs.Prime.{Prime}
use Rattle.field.specs.Inverse.{Inverse}
use Rattle.words.specs.Polynomial.{poly}
use Rattle.sizes.specs.Entry.{type_of}
use Rattle.relation.specs.Sum.{sum_to}
use Rattle.relation.specs.Product.{conv, dot}
use Rattle.relation.specs.Vector.{Vect, IsVec}
use Rattle.relation.specs.LeadingZeros.{LeadingZeros}
use Rattle.relation.specs.ShiftedDegree.{shift}
use Rattle.relation.specs.MinimalBasis.{MinimalBasis}
use Rattle.relation.specs.Reduced.{Reduced}
use Rattle.relation.specs.Sigma.{sumℤ, sigma_of}
use Rattle.relation.specs.Approximant.{Approximant}
use Rattle.relation.specs.Fraction.{LowestFraction}
use Rattle.relation.specs.Operations.{scaled}
use Rattle.relation.specs.Pair.{pair_series, pair_type, Pair}
use Rattle.relation.specs.Starred.{listed, listed_rows, StarredAnswer, Right, Case, basis, approximant, pair, no_fraction, inverse, Holds, AllHold, starred, c1, c1_answer}
use Rattle.relation.proofs.Test.{Test, passed, from, equal_list, equal, at_most_test, below, nonzero, equalℤ, both, either, every, some}
use Rattle.relation.proofs.Vector.{zero_vector}
use Rattle.relation.specs.Weight.{weight, LeadsAt, less}
use Rattle.relation.proofs.Shift.{base, offsets, offset}
use Rattle.relation.specs.ReducedBasis.{WeightBasis, ReducedAt}
use Rattle.relation.proofs.Existence.{criterion}
use Rattle.relation.proofs.Bridge.{basis→minimal, basis→reduced, basis→pivot, basis→degree, basis→least}
use Rattle.relation.proofs.Shrink.{basis→count}
use Rattle.relation.proofs.Pair.{pair_order_is}
use Rattle.relation.proofs.Fraction.{no_fraction_at_zero, scaled_pair_is_lowest}

-- p is above 1, and no number from 2 to p - 1 divides it
prime_by : (p : ℕ) → 1 < p → ((d : ℕ) → d < p → (d ≤ 1) ⊎ (p % d ≢ 0)) → Prime p
prime_by p above h = record { above_one = above; only = λ d v. only d v.0 v.1 }
  where
    only : (d q : ℕ) → d * q ≡ p → (d ≡ 1) ⊎ (d ≡ p)
    only d zero e = absurd (omega (arith, mul-zero d))
    only zero (suc q) e = absurd (omega (arith, zero-mul (suc q)))
    only (suc d) (suc q) e = elim (ℕ_discrete (suc d) p) [
      | yes r ↦ inr r
      | no nr ↦ elim (h (suc d) (omega (arith, le-mul_of_pos_right {m = suc q} (suc d) (omega arith)))) [
        | inl l ↦ inl (omega arith)
        | inr z ↦ absurd (z (rw (← e) (mul-mod_right (suc d) (suc q))))
      ]
    ]

abbrev prime_test : (p : ℕ) → Test (Prime p)
prime_test p = from (both (below 1 p) (every p (λ d. either (at_most_test d 1) (nonzero (p % d))))) (λ t. prime_by p t.0 t.1)

-- a vector whose entries end at w
record Fits (p n w : ℕ) (P : Vect) : Type 0 where
  vec : IsVec p n P
  end : (i k : ℕ) → w ≤ k → P i k ≡ 0

module _ (p n w : ℕ) (l : List (List ℕ)) (hp : 0 < p) (entries : length l ≤ n) (ends : (i : ℕ) → i < n → length (get_or l i []) ≤ w)
    (small : (i : ℕ) → i < n → (k : ℕ) → k < w → listed l i k < p) where
  past_entries : (i k : ℕ) → n ≤ i → listed l i k ≡ 0
  unfolding poly
  past_entries i k h = rw (get_or-eq_default l [] {n = i} (omega arith)) refl

  past_end : (i k : ℕ) → w ≤ k → listed l i k ≡ 0
  unfolding poly
  past_end i k h = elim (dec_lt i n) [
    | yes hi ↦ get_or-eq_default (get_or l i []) 0 {n = k} (omega (arith, ends i hi))
    | no g ↦ past_entries i k (omega arith)
  ]

  fits : Fits p n w (listed l)
  fits = record {
    vec = record {
      small = λ i k. elim (dec_lt i n) [
        | yes hi ↦ elim (dec_lt k w) [
          | yes hk ↦ small i hi k hk
          | no g ↦ rw (past_end i k (omega arith)) hp
        ]
        | no g ↦ rw (past_entries i k (omega arith)) hp
      ];
      out = past_entries;
      bound = w;
      high = past_end;
    };
    end = past_end;
  }

abbrev vector_test : (p n w : ℕ) (l : List (List ℕ)) → Test (Fits p n w (listed l))
vector_test p n w l = from
    (both (below 0 p) (both (at_most_test (length l) n) (both (every n (λ i. at_most_test (length (get_or l i [])) w)) (every n (λ i. every w (λ k. below (listed l i k) p))))))
    (λ t. fits p n w l t.0 t.1.0 t.1.1.0 t.1.1.1)

-- (i, e) leads a vector that ends at w
lead_by : (n : ℕ) (b : ℕ → ℕ) (w : ℕ) (P : Vect) (i e : ℕ) → ((j k : ℕ) → w ≤ k → P j k ≡ 0) → P i e ≢ 0
    → ((j : ℕ) → j < n → (k : ℕ) → k < w → (weight n b j k ≤ weight n b i e) ⊎ (P j k ≡ 0)) → LeadsAt n b P i e
lead_by n b w P i e end nz h = record {
  nonzero = nz;
  above = λ j k hj g. elim (dec_lt k w) [
    | yes hk ↦ elim (h j hj k hk) [ inl l ↦ absurd (omega arith) | inr z ↦ z ]
    | no nk ↦ end j k (omega arith)
  ];
}

abbrev lead_test : (p n : ℕ) (b : ℕ → ℕ) (w : ℕ) (l : List (List ℕ)) (i e : ℕ) → Test (Fits p n w (listed l) × LeadsAt n b (listed l) i e)
lead_test p n b w l i e = from
    (both (vector_test p n w l) (both (nonzero (listed l i e)) (every n (λ j. every w (λ k. either (at_most_test (weight n b j k) (weight n b i e)) (equal (listed l j k) 0))))))
    (λ t. (t.0, lead_by n b w (listed l) i e t.0.end t.1.0 t.1.1))

zeros_by : (p n : ℕ) (F : Vect) (s m : ℕ) → m ≤ s → ((k : ℕ) → k < m → (i : ℕ) → i < n → F i k % p ≡ 0)
    → (s ≤ m) ⊎ ((i : ℕ) × (i < n) × (F i m % p ≢ 0)) → LeadingZeros p n F s m
zeros_by p n F s m le z nx = record { at_most = le; zeros = z; next = λ h. elim nx [ inl g ↦ absurd (omega arith) | inr i ↦ i ] }

abbrev zeros_test : (p n : ℕ) (F : Vect) (s m : ℕ) → Test (LeadingZeros p n F s m)
zeros_test p n F s m = from
    (both (at_most_test m s) (both (every m (λ k. every n (λ i. equal (F i k % p) 0))) (either (at_most_test s m) (some n (λ i. nonzero (F i m % p))))))
    (λ t. zeros_by p n F s m t.0 t.1.0 t.1.1)

abbrev pivot_of : StarredAnswer → ℕ → ℕ
pivot_of a i = get_or a.pivots i 0

-- a prime and a minimal basis, with entries of at most s + 1 coefficients
record Minimal (p n : ℕ) (F : Vect) (s : ℕ) (d : ℕ → ℤ) (a : StarredAnswer) : Type 0 where
  prime : Prime p
  basis : WeightBasis p n (offsets n d) F s (listed_rows a.rows) (pivot_of a)
  ends : (i : ℕ) → i < n → (k t : ℕ) → suc s ≤ t → listed_rows a.rows i k t ≡ 0

-- rows of V_s, row i of type i, and pivot degrees that add up to s - m
abbrev minimal_test : (p n : ℕ) (F : Vect) (s : ℕ) (d : ℕ → ℤ) (a : StarredAnswer) → Test (Minimal p n F s d a)
minimal_test p n F s d a = from
    (both (prime_test p)
    (both (every n (λ i. lead_test p n (offsets n d) (suc s) (get_or a.rows i []) i (pivot_of a i)))
    (both (every n (λ i. every s (λ k. equal (dot n (listed_rows a.rows i) F k % p) 0)))
    (both (at_most_test (sum_to n (pivot_of a)) s) (zeros_test p n F s (s - sum_to n (pivot_of a)))))))
    (λ t. record {
      prime = t.0;
      basis = criterion t.0 t.1.1.1.1 (omega (arith, t.1.1.1.0)) (λ i hi. (t.1.0 i hi).0.vec) t.1.1.0 (λ i hi. (t.1.0 i hi).1);
      ends = λ i hi. (t.1.0 i hi).0.end;
    })

-- what an answer says beside its basis: reduced, the shifted degrees, the least row and the count
record Rest (p n : ℕ) (d : ℕ → ℤ) (s : ℕ) (a : StarredAnswer) : Type 0 where
  monic : (i : ℕ) → i < n → listed_rows a.rows i i (pivot_of a i) ≡ 1
  clear : (l : ℕ) → l < n → (k : ℕ) → k < n → (l ≡ k) ⊎ ((t : ℕ) → t < suc s → (t < pivot_of a k) ⊎ (listed_rows a.rows l k t ≡ 0))
  degrees : (i : ℕ) → i < n → shift d i (pivot_of a i) ≡ get_or a.degrees i (pos 0)
  named : suc (a.least - 1) ≡ a.least
  row : a.least - 1 < n
  first : (l : ℕ) → l < n → weight n (offsets n d) (a.least - 1) (pivot_of a (a.least - 1)) ≤ weight n (offsets n d) l (pivot_of a l)
  counted : sum_to n (pivot_of a) ≡ a.count

abbrev rest_test : (p n : ℕ) (d : ℕ → ℤ) (s : ℕ) (a : StarredAnswer) → Test (Rest p n d s a)
rest_test p n d s a = from
    (both (every n (λ i. equal (listed_rows a.rows i i (pivot_of a i)) 1))
    (both (every n (λ l. every n (λ k. either (equal l k) (every (suc s) (λ t. either (below t (pivot_of a k)) (equal (listed_rows a.rows l k t) 0))))))
    (both (every n (λ i. equalℤ (shift d i (pivot_of a i)) (get_or a.degrees i (pos 0))))
    (both (equal (suc (a.least - 1)) a.least)
    (both (below (a.least - 1) n)
    (both (every n (λ l. at_most_test (weight n (offsets n d) (a.least - 1) (pivot_of a (a.least - 1))) (weight n (offsets n d) l (pivot_of a l))))
    (equal (sum_to n (pivot_of a)) a.count)))))))
    (λ t. record {
      monic = t.0;
      clear = t.1.0;
      degrees = t.1.1.0;
      named = t.1.1.1.0;
      row = t.1.1.1.1.0;
      first = t.1.1.1.1.1.0;
      counted = t.1.1.1.1.1.1;
    })

module _ {p n : ℕ} {F : Vect} {s : ℕ} {d : ℕ → ℤ} {a : StarredAnswer} (mn : Minimal p n F s d a) (rs : Rest p n d s a) where
  reduced_at : ReducedAt n (listed_rows a.rows) (pivot_of a)
  reduced_at = record {
    monic = rs.monic;
    clear = λ l k hl hk ne t g. elim (rs.clear l hl k hk) [
      | inl q ↦ absurd (ne q)
      | inr h ↦ elim (dec_lt t (suc s)) [
        | yes ht ↦ elim (h t ht) [ inl b ↦ absurd (omega arith) | inr z ↦ z ]
        | no nt ↦ mn.ends l hl k t (omega arith)
      ]
    ];
  }

  right : Right p n F s d a
  right = record {
    prime = mn.prime;
    basis = basis→minimal (offset n d) mn.basis;
    reduced = basis→reduced (record { basis = mn.basis; reduced = reduced_at });
    pivots = basis→pivot mn.basis;
    degrees = λ i hi. rw (← rs.degrees i hi) (basis→degree (offset n d) mn.basis i hi);
    least = (a.least - 1, rs.named, basis→least (offset n d) mn.basis (a.least - 1) rs.row rs.first);
    count = rw (← rs.counted) (basis→count mn.prime mn.basis);
  }

abbrev answer_test : (p n : ℕ) (F : Vect) (s : ℕ) (d : ℕ → ℤ) (a : StarredAnswer) → Test (Right p n F s d a)
answer_test p n F s d a = from (both (minimal_test p n F s d a) (rest_test p n d s a)) (λ t. right t.0 t.1)

approximant_by : {p n : ℕ} {F : Vect} {s : ℕ} {d : ℕ → ℤ} {a : StarredAnswer} → pos s ≡ sigma_of n d → (r : Right p n F s d a) → Approximant p n F d s (listed_rows a.rows) r.least.0
approximant_by q r = record { order = q; basis = r.basis; reduced = r.reduced; least = r.least.2 }

-- entry j of the least row
abbrev least_entry : StarredAnswer → ℕ → List ℕ
least_entry a j = get_or (get_or a.rows (a.least - 1) []) j []

-- the two entries of the least row are the pair that fractions are read from
record PairOf (p k : ℕ) (g : List ℕ) (a : StarredAnswer) : Type 0 where
  prime : Prime p
  one≤k : 1 ≤ k
  k≤N : k ≤ length g
  entries : Pair p k (length g) (poly g) (poly (least_entry a 0)) (poly (least_entry a 1))

pair_of : {p k : ℕ} {g : List ℕ} {a : StarredAnswer} → 1 ≤ k → k ≤ length g
    → Right p 2 (pair_series p (poly g)) (length g) (pair_type k (length g)) a → PairOf p k g a
pair_of {p} {k} {g} {a} one≤k k≤N h =
    let is : a.least - 1 ≡ h.least.0 = omega (arith, h.least.1) in
    record {
      prime = h.prime;
      one≤k = one≤k;
      k≤N = k≤N;
      entries = record {
        rows = listed_rows a.rows;
        row = h.least.0;
        approximant = approximant_by (pair_order_is k (length g) one≤k k≤N) h;
        first = λ x. rw is;
        second = λ x. rw is;
      };
    }

abbrev pair_of_test : (p k : ℕ) (g : List ℕ) (a : StarredAnswer) → Test (PairOf p k g a)
pair_of_test p k g a = from
    (both (at_most_test 1 k) (both (at_most_test k (length g)) (answer_test p 2 (pair_series p (poly g)) (length g) (pair_type k (length g)) a)))
    (λ t. pair_of t.0 t.1.0 t.1.1)

-- each coefficient times h
abbrev scaled_list : ℕ → ℕ → List ℕ → List ℕ
scaled_list p h l = map (λ (c : ℕ). (h * c) % p) l

poly_scaled : (p h : ℕ) (l : List ℕ) → scaled p h (poly l) ≡ poly (scaled_list p h l)
unfolding poly
poly_scaled p h l =
    let q : (h * 0) % p ≡ 0 = rw mul-zero (zero-mod p) in
    fun_ext λ x. sym (rw q at (get_or-map (λ (c : ℕ). (h * c) % p) l x 0))

lowest_by : {p k : ℕ} {g : List ℕ} {a : StarredAnswer} (h : ℕ) → PairOf p k g a → Inverse p (poly (least_entry a 1) 0) h
    → LowestFraction p k (length g) (poly g) (poly (scaled_list p h (least_entry a 0))) (poly (scaled_list p h (least_entry a 1)))
lowest_by {p} {k} {g} {a} h l i = rw (poly_scaled p h (least_entry a 0), poly_scaled p h (least_entry a 1)) at (scaled_pair_is_lowest l.prime l.one≤k l.k≤N l.entries h i)

case_test : (c : Case) → Test (Holds c)
unfolding Holds
case_test (basis j a) = answer_test j.p j.n (listed j.series) j.s (type_of j.type) a
case_test (approximant j a) = from
    (both (equalℤ (pos j.s) (sigma_of j.n (type_of j.type))) (answer_test j.p j.n (listed j.series) j.s (type_of j.type) a))
    (λ t. (t.1, approximant_by t.0 t.1))
case_test (pair p k g r t a) = from
    (both (pair_of_test p k g a)
    (some p (λ h. both (equal ((poly (least_entry a 1) 0 * h) % p) 1) (both (equal_list (scaled_list p h (least_entry a 0)) r) (equal_list (scaled_list p h (least_entry a 1)) t)))))
    (λ u. (u.0.prime, rw (u.1.2.1.0, u.1.2.1.1) at (lowest_by u.1.0 u.0 (record { below = u.1.1; product = u.1.2.0 }))))
case_test (no_fraction p k g a) = from (both (pair_of_test p k g a) (equal (poly (least_entry a 1) 0) 0))
    (λ u. (u.0.prime, no_fraction_at_zero u.0.prime u.0.one≤k u.0.k≤N u.0.entries u.1))
case_test (inverse p a b) = from (both (prime_test p) (both (below b p) (equal ((a * b) % p) 1)))
    (λ t. (t.0, record { below = t.1.0; product = t.1.1 }))

table_test : (cs : List Case) → Test (AllHold cs)
unfolding AllHold
table_test [] = passed tt
table_test (c ∷ cs) = both (case_test c) (table_test cs)

-- every starred case holds
pub starred_hold : AllHold starred
unfolding table_test case_test poly sum_to conv dot weight less base offsets sumℤ sigma_of pair_series pair_type
starred_hold = (table_test starred).shows tt

-- a buffer lent with zeros holds no basis, whatever the job
pub zero_rows_no_basis : {p n : ℕ} {F : Vect} {s : ℕ} {d : ℕ → ℤ} → 0 < n → ¬ MinimalBasis p n F s d (λ i. zero_vector)
zero_rows_no_basis hn mb = let w = mb.nonzero 0 hn in w.3 refl

-- the identity rows are no basis of C1: (1, 0) is no relation
abbrev identity_rows : ℕ → Vect
identity_rows = listed_rows (((1 ∷ []) ∷ (0 ∷ []) ∷ []) ∷ ((0 ∷ []) ∷ (1 ∷ []) ∷ []) ∷ [])

pub identity_no_basis : ¬ MinimalBasis 7 2 (listed c1.series) 3 (type_of c1.type) identity_rows
unfolding poly sum_to conv dot
identity_no_basis mb =
    let q : ◌≡◌ {A = ℕ} 6 0 = (mb.member 0 (omega arith)).vanishes 0 (omega arith) in
    omega arith

-- in C1 the row (0 1, 0 1 6) is minimal too, but not reduced
abbrev unreduced : StarredAnswer
unreduced = record {
  rows = ((0 ∷ 1 ∷ []) ∷ (0 ∷ 1 ∷ 6 ∷ []) ∷ []) ∷ ((6 ∷ []) ∷ (6 ∷ 1 ∷ 1 ∷ []) ∷ []) ∷ [];
  pivots = c1_answer.pivots;
  degrees = c1_answer.degrees;
  least = c1_answer.least;
  count = c1_answer.count;
}

unreduced_minimal : Minimal 7 2 (listed c1.series) 3 (type_of c1.type) unreduced
unfolding poly sum_to conv dot weight less base offsets
unreduced_minimal = (minimal_test 7 2 (listed c1.series) 3 (type_of c1.type) unreduced).shows tt

pub minimal_not_reduced : MinimalBasis 7 2 (listed c1.series) 3 (type_of c1.type) (listed_rows unreduced.rows) × (¬ Reduced 2 (listed_rows unreduced.rows))
unfolding poly
minimal_not_reduced = (
  basis→minimal (offset 2 (type_of c1.type)) unreduced_minimal.basis,
  λ rd.
      let q : ◌≡◌ {A = ℕ} 6 0 = rd.below 0 1 2 (omega arith) (omega arith) (omega arith) (basis→pivot unreduced_minimal.basis 1 (omega arith)) 2 (omega arith) in
      omega arith,
)
