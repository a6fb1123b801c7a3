-- A reduced minimal basis exists at every order, and its pivot degrees add up to s - m.
--   find                                  the first row by a weight
--   same_while, differ_from               V_(j+1) differs from V_j exactly for j at least m
--   Solution, solve                       existence, with the sum of the pivot degrees
--   pivot_sum, criterion                  the sum for any minimal basis, and that it decides
--   rows→relations, relations→same_rows   equal reduced bases and equal sets of relations
--   pivot_le, entry_short                 how long the entries are
use mathlib.Core.Path.{◌≡◌, refl, ap, sym, ◌∙◌, subst}
use mathlib.Core.Logic.{◌≢◌, ◌⊎◌, inl, inr}
use Prim.Native.Nat.{ℕ, zero, suc, ◌+◌, ◌*◌, ◌-◌, ◌%◌, ◌≤◌, ◌<◌}
use native.Mathlib.Nat.{add-mod-mod, add_comm, mod-lt}
use native.Mathlib.Decide.{ℕ_discrete, dec_le, dec_lt}
use native.Mathlib.Omega.{arith}
use Rattle.field.specs.Prime.{Prime}
use Rattle.field.proofs.Residue.{neg, neg_add, mod_mul_right}
use Rattle.relation.specs.Sum.{sum_to}
use Rattle.relation.specs.Product.{dot}
use Rattle.relation.specs.Vector.{Vect, IsVec}
use Rattle.relation.specs.Relation.{VanishesTo}
use Rattle.relation.specs.LeadingZeros.{LeadingZeros}
use Rattle.relation.specs.Pick.{pick}
use Rattle.relation.proofs.Pick.{pick_yes, pick_no}
use Rattle.relation.proofs.Sum.{sum_zero, sum_ext, sum_bump, sum_tight, sum_ge}
use Rattle.relation.proofs.Product.{dot_vanish}
use Rattle.relation.specs.Operations.{times_x, unit}
use Rattle.relation.proofs.Vector.{times_x_power, vec_unit, vec_times_x_power, dot_unit, dot_times_x_power, times_x_power_at, vanishes_zero, vanishes_term, vanishes_times_x_power, vanishes_more}
use Rattle.relation.specs.Weight.{weight, LeadsAt}
use Rattle.relation.proofs.Weight.{weight_lt}
use Rattle.relation.specs.ReducedBasis.{WeightBasis, ReducedBasis}
use Rattle.relation.proofs.Basis.{kill, reduction_all, unique, same_pivots}
use Rattle.relation.proofs.Start.{start}
use Rattle.relation.specs.Moving.{FirstRow, cleared_row, moved_row}
use Rattle.relation.proofs.Step.{ClearsColumns, Stepped, step_same, step}

-- the first row joins one that is found among the others
next_first : (N : ℕ) (c v : ℕ → ℕ) (i : ℕ) → FirstRow N c v i → (c N ≢ 0 → v i ≤ v N) → FirstRow (suc N) c v i
next_first N c v i f h = record {
  row< = omega (arith, f.row<);
  nonzero = f.nonzero;
  least = λ l hl nz. elim (ℕ_discrete l N) [
    | yes q ↦ rw q (h (λ z. nz (rw q z)))
    | no nq ↦ f.least l (omega arith) nz
  ];
}

last_first : (N : ℕ) (c v : ℕ → ℕ) → c N ≢ 0 → ((l : ℕ) → l < N → c l ≢ 0 → v N ≤ v l) → FirstRow (suc N) c v N
last_first N c v z h = record {
  row< = omega arith;
  nonzero = z;
  least = λ l hl nz. elim (ℕ_discrete l N) [ yes q ↦ rw q (omega arith) | no nq ↦ h l (omega arith) nz ];
}

pub find : (N : ℕ) (c v : ℕ → ℕ) → ((l : ℕ) → l < N → c l ≡ 0) ⊎ ((i : ℕ) × FirstRow N c v i)
find zero c v = inl (λ l h. absurd (omega arith))
find (suc N) c v = elim (find N c v) [
  | inl h ↦ elim (ℕ_discrete (c N) 0) [
    | yes z ↦ inl (λ l hl. elim (ℕ_discrete l N) [ yes q ↦ rw q z | no nq ↦ h l (omega arith) ])
    | no z ↦ inr (N, last_first N c v z (λ l hl nz. absurd (nz (h l hl))))
  ]
  | inr f ↦ elim (ℕ_discrete (c N) 0) [
    | yes z ↦ inr (f.0, next_first N c v f.0 f.1 (λ nz. absurd (nz z)))
    | no z ↦ elim (dec_le (v f.0) (v N)) [
      | yes g ↦ inr (f.0, next_first N c v f.0 f.1 (λ nz. g))
      | no g ↦ inr (N, last_first N c v z (λ l hl nz. omega (arith, f.1.least l hl nz)))
    ]
  ]
]

pub zeros_unique : (p n : ℕ) (F : Vect) (s m m' : ℕ) → LeadingZeros p n F s m → LeadingZeros p n F s m' → m ≡ m'
zeros_unique p n F s m m' a a' = elim (dec_lt m m') [
  | yes g ↦ let i = a.next (omega (arith, a'.at_most)) in absurd (i.2 (a'.zeros m g i.0 i.1))
  | no g ↦ elim (dec_lt m' m) [
    | yes h ↦ let i = a'.next (omega (arith, a.at_most)) in absurd (i.2 (a.zeros m' h i.0 i.1))
    | no h ↦ omega arith
  ]
]

-- the relations stay the same while all series vanish
pub same_while : (p n : ℕ) (F : Vect) (j m : ℕ) → j < m → ((k : ℕ) → k < m → (i : ℕ) → i < n → F i k % p ≡ 0)
    → (P : Vect) → VanishesTo p n F j P → VanishesTo p n F (suc j) P
same_while p n F j m g z P h = vanishes_more p n F j P h (dot_vanish p n F P j (λ t ht. z t (omega arith)))

-- and then they never do: with F i m not 0, X^(j - m) in entry i is in V_j and not in V_(j+1)
pub differ_from : (p n : ℕ) → 1 < p → (F : Vect) (j m i : ℕ) → m ≤ j → ((k : ℕ) → k < m → (i : ℕ) → i < n → F i k % p ≡ 0) → i < n → F i m % p ≢ 0
    → (P : Vect) × IsVec p n P × VanishesTo p n F j P × (¬ VanishesTo p n F (suc j) P)
differ_from p n hp F j m i g z hi nz =
    let q : (j - m) + m ≡ j = omega arith in
    let u : VanishesTo p n F m (unit i) = λ k hk. rw (dot_unit n i F k hi) (z k hk i hi) in
    let c : dot n (times_x_power (j - m) (unit i)) F ((j - m) + m) ≡ F i m = dot_times_x_power n i (j - m) F ((j - m) + m) hi ∙ times_x_power_at (j - m) F i m in (
      times_x_power (j - m) (unit i),
      vec_times_x_power p n (j - m) (unit i) (omega arith) (vec_unit p n i hp hi),
      subst (λ (x : ℕ). VanishesTo p n F x (times_x_power (j - m) (unit i))) q (vanishes_times_x_power p n F m (j - m) (unit i) u),
      λ r. nz (ap (λ (x : ℕ). x % p) (sym c) ∙ r ((j - m) + m) (omega arith)),
    )

-- where the rows of a basis relate the series G too, all relations do
pub rows→relations : {p n : ℕ} {b : ℕ → ℕ} {F : Vect} {s : ℕ} {Q : ℕ → Vect} {e : ℕ → ℕ} → Prime p → WeightBasis p n b F s Q e
    → (G : Vect) (t : ℕ) → ((i : ℕ) → i < n → VanishesTo p n G t (Q i)) → (P : Vect) → IsVec p n P → VanishesTo p n F s P → VanishesTo p n G t P
rows→relations {p} {n} {Q} pr wb G t h = reduction_all pr wb (λ P. VanishesTo p n G t P) (vanishes_zero p n G t)
    (λ l u c R hl vR mR m. vanishes_term p n G t u c (Q l) R (h l hl) m)

-- a reduced minimal basis of V_s, and the sum of its pivots
pub record Solution (p n : ℕ) (b : ℕ → ℕ) (F : Vect) (s : ℕ) : Type 0 where
  pub rows : ℕ → Vect
  pub pivot : ℕ → ℕ
  pub basis : ReducedBasis p n b F s rows pivot
  pub lost : ℕ
  pub zeros : LeadingZeros p n F s lost
  pub count : sum_to n pivot + lost ≡ s

-- one order more
module _ {p n : ℕ} {b : ℕ → ℕ} {F : Vect} {s : ℕ} (pr : Prime p) (S : Solution p n b F s) where
  c : ℕ → ℕ
  c l = dot n (S.rows l) F s % p

  -- where no row changes, all series vanish as far as s
  at_lost : ((l : ℕ) → l < n → c l ≡ 0) → (i : ℕ) → i < n → F i S.lost % p ≡ 0
  unfolding c
  at_lost z i hi = elim (ℕ_discrete (F i S.lost % p) 0) [
    | yes q ↦ q
    | no nq ↦
        let d = differ_from p n pr.above_one F s S.lost i S.zeros.at_most S.zeros.zeros hi nq in
        absurd (d.3 (rows→relations pr S.basis.basis F (suc s) (λ l hl. vanishes_more p n F s (S.rows l) (S.basis.basis.mem l hl) (z l hl)) d.0 d.1 d.2))
  ]

  lost_all : ((l : ℕ) → l < n → c l ≡ 0) → S.lost ≡ s
  lost_all z = elim (dec_lt S.lost s) [
    | yes g ↦ let i = S.zeros.next g in absurd (i.2 (at_lost z i.0 i.1))
    | no g ↦ omega (arith, S.zeros.at_most)
  ]

  same : ((l : ℕ) → l < n → c l ≡ 0) → Solution p n b F (suc s)
  unfolding c
  same z = record {
    rows = S.rows;
    pivot = S.pivot;
    basis = step_same pr S.basis z;
    lost = suc s;
    zeros = record {
      at_most = omega arith;
      zeros = λ k hk i hi. elim (ℕ_discrete k s) [
        | yes q ↦ rw (q, ← lost_all z) (at_lost z i hi)
        | no nq ↦ S.zeros.zeros k (omega (arith, lost_all z)) i hi
      ];
      next = λ h. absurd (omega arith);
    };
    count = omega (arith, S.count, lost_all z);
  }

  moved_zeros : (i : ℕ) → i < n → c i ≢ 0 → LeadingZeros p n F (suc s) S.lost
  unfolding c
  moved_zeros i hi nz = record {
    at_most = omega (arith, S.zeros.at_most);
    zeros = S.zeros.zeros;
    next = λ h. elim (dec_lt S.lost s) [
      | yes g ↦ S.zeros.next g
      | no g ↦ elim (find n (λ i. F i S.lost % p) (λ i. i)) [
        | inl z ↦ absurd (nz (dot_vanish p n F (S.rows i) s (λ t ht i' hi'. elim (ℕ_discrete t S.lost) [
          | yes q ↦ rw q (z i' hi')
          | no nq ↦ S.zeros.zeros t (omega (arith, S.zeros.at_most)) i' hi'
        ])))
        | inr f ↦ (f.0, f.1.row<, f.1.nonzero)
      ]
    ];
  }

  module _ (i : ℕ) (fr : FirstRow n (λ l. dot n (S.rows l) F s % p) (λ l. weight n b l (S.pivot l)) i) where
    factor : (l : ℕ) → (x : ℕ) × ((dot n (S.rows l) F s + x * dot n (S.rows i) F s) % p ≡ 0)
    factor l =
        let k = kill p pr (dot n (S.rows l) F s) (dot n (S.rows i) F s % p) (mod-lt _ (omega arith)) fr.nonzero in (
          neg p k.0,
          sym (add-mod-mod _ _ p) ∙ rw (← mod_mul_right p (neg p k.0) (dot n (S.rows i) F s)) (add-mod-mod _ _ p ∙ k.1),
        )

    coefficient : ℕ → ℕ
    coefficient l = pick (ℕ_discrete l i) 0 (neg p (times_x (S.rows i) l (S.pivot l)))

    clears : ClearsColumns p n S.rows S.pivot i coefficient
    unfolding coefficient
    clears = record {
      own = pick_yes (ℕ_discrete i i) _ _ refl;
      others = λ l hl ne. rw (pick_no (ℕ_discrete l i) 0 (neg p (times_x (S.rows i) l (S.pivot l))) ne)
          (rw (add_comm (times_x (S.rows i) l (S.pivot l)) (neg p (times_x (S.rows i) l (S.pivot l)))) (neg_add p _ (omega arith)));
    }

    new : ℕ → Vect
    new l = pick (ℕ_discrete l i) (moved_row p n (λ l. (factor l).0) coefficient S.rows i) (cleared_row p (λ l. (factor l).0) S.rows i l)

    at : ℕ → ℕ
    at l = pick (ℕ_discrete l i) (suc (S.pivot i)) (S.pivot l)

    stepped : Stepped p n (λ l. (factor l).0) coefficient S.rows S.pivot i new at
    unfolding new at
    stepped = record {
      pivot = pick_yes (ℕ_discrete i i) _ _ refl;
      pivots = λ l hl ne. pick_no (ℕ_discrete l i) _ _ ne;
      row = pick_yes (ℕ_discrete i i) _ _ refl;
      rows = λ l hl ne. pick_no (ℕ_discrete l i) _ _ ne;
    }

    moved : Solution p n b F (suc s)
    unfolding c
    moved = record {
      rows = new;
      pivot = at;
      basis = step pr S.basis fr (record { clears = λ l hl. (factor l).1 }) clears stepped;
      lost = S.lost;
      zeros = moved_zeros i fr.row< fr.nonzero;
      count =
          let q : sum_to n at ≡ suc (sum_to n S.pivot) = sum_bump n i S.pivot at fr.row< stepped.pivot stepped.pivots in
          omega (arith, S.count);
    }

  next : Solution p n b F (suc s)
  unfolding c
  next = elim (find n c (λ l. weight n b l (S.pivot l))) [
    | inl z ↦ same z
    | inr f ↦ moved f.0 f.1
  ]

pub solve : (p n : ℕ) (b : ℕ → ℕ) (F : Vect) → Prime p → (s : ℕ) → Solution p n b F s
solve p n b F pr zero = record {
  rows = unit;
  pivot = λ i. 0;
  basis = start p n b F pr;
  lost = 0;
  zeros = record { at_most = omega arith; zeros = λ k hk. absurd (omega arith); next = λ h. absurd (omega arith) };
  count = rw (sum_zero n);
}
solve p n b F pr (suc s) = next pr (solve p n b F pr s)

-- the pivot degrees of any minimal basis add up to s - m
pub pivot_sum : {p n : ℕ} {b : ℕ → ℕ} {F : Vect} {s : ℕ} {Q : ℕ → Vect} {e : ℕ → ℕ} → Prime p → WeightBasis p n b F s Q e
    → (m : ℕ) → LeadingZeros p n F s m → sum_to n e + m ≡ s
pivot_sum {p} {n} {b} {F} {s} {Q} {e} pr wb m z =
    let S = solve p n b F pr s in
    let q : S.lost ≡ m = zeros_unique p n F s S.lost m S.zeros z in
    let u : sum_to n e ≡ sum_to n S.pivot = sum_ext n e S.pivot (same_pivots wb S.basis.basis) in
    omega (arith, S.count)

-- rows of V_s, one for each type, whose pivot degrees have this sum, are a minimal basis
pub criterion : {p n : ℕ} {b : ℕ → ℕ} {F : Vect} {s m : ℕ} {Q : ℕ → Vect} {e : ℕ → ℕ} → Prime p → LeadingZeros p n F s m → sum_to n e + m ≡ s
    → ((i : ℕ) → i < n → IsVec p n (Q i)) → ((i : ℕ) → i < n → VanishesTo p n F s (Q i)) → ((i : ℕ) → i < n → LeadsAt n b (Q i) i (e i))
    → WeightBasis p n b F s Q e
criterion {p} {n} {b} {F} {s} {m} {Q} {e} pr z sum vec mem lead =
    let S = solve p n b F pr s in
    let q : S.lost ≡ m = zeros_unique p n F s S.lost m S.zeros z in
    let le : (i : ℕ) → i < n → S.pivot i ≤ e i = λ i hi. S.basis.basis.least i hi (Q i) (vec i hi) (mem i hi) (e i) (lead i hi) in
    let t : (i : ℕ) → i < n → S.pivot i ≡ e i = sum_tight n S.pivot e le (omega (arith, S.count)) in
    record {
      vec = vec;
      mem = mem;
      lead = lead;
      least = λ i hi P vP mP k ld. omega (arith, t i hi, S.basis.basis.least i hi P vP mP k ld);
    }

-- where two sets of series have the same relations, their reduced minimal bases are equal
pub relations→same_rows : {p n : ℕ} {b : ℕ → ℕ} {F G : Vect} {s : ℕ} {Q Q' : ℕ → Vect} {e e' : ℕ → ℕ}
    → ReducedBasis p n b F s Q e → ReducedBasis p n b G s Q' e'
    → ((P : Vect) → IsVec p n P → VanishesTo p n F s P → VanishesTo p n G s P) → ((P : Vect) → IsVec p n P → VanishesTo p n G s P → VanishesTo p n F s P)
    → (i : ℕ) → i < n → Q i ≡ Q' i
relations→same_rows {p} {n} {b} {F} {s} {Q'} {e'} rb rb' fg gf =
    let wb : WeightBasis p n b F s Q' e' = record {
      vec = rb'.basis.vec;
      mem = λ i hi. gf (Q' i) (rb'.basis.vec i hi) (rb'.basis.mem i hi);
      lead = rb'.basis.lead;
      least = λ i hi P vP mP. rb'.basis.least i hi P vP (fg P vP mP);
    } in
    unique rb (record { basis = wb; reduced = rb'.reduced })

-- no pivot is past s, and the entries of column k end at the pivot
pub pivot_le : {p n : ℕ} {b : ℕ → ℕ} {F : Vect} {s : ℕ} {Q : ℕ → Vect} {e : ℕ → ℕ} → Prime p → WeightBasis p n b F s Q e → (i : ℕ) → i < n → e i ≤ s
pivot_le {p} {n} {b} {F} {s} {Q} {e} pr wb i hi =
    let S = solve p n b F pr s in
    omega (arith, same_pivots wb S.basis.basis i hi, S.count, sum_ge n S.pivot i hi)

pub entry_short : {p n : ℕ} {b : ℕ → ℕ} {F : Vect} {s : ℕ} {Q : ℕ → Vect} {e : ℕ → ℕ} → ReducedBasis p n b F s Q e
    → (l k : ℕ) → l < n → k < n → (t : ℕ) → e k < t → Q l k t ≡ 0
entry_short {n} {b} {e} rb l k hl hk t g = elim (ℕ_discrete l k) [
  | yes q ↦ rw q ((rb.basis.lead k hk).above k t hk (weight_lt n b k (e k) t (omega arith) g))
  | no nq ↦ rb.reduced.clear l k hl hk nq t (omega arith)
]
