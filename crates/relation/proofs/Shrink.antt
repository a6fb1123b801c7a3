-- V_(j+1) differs from V_j exactly for j at least m, so s - m of the orders below s make V smaller.
use mathlib.Core.Path.{◌≡◌, refl, ap}
use mathlib.Core.Logic.{◌↔◌}
use Prim.Native.Nat.{ℕ, zero, suc, ◌-◌, ◌≤◌, ◌<◌}
use native.Mathlib.Decide.{dec_le}
use native.Mathlib.Omega.{arith}
use Rattle.field.specs.Prime.{Prime}
use Rattle.relation.specs.Sum.{sum_to}
use Rattle.relation.specs.Vector.{Vect}
use Rattle.relation.specs.Relation.{Relation}
use Rattle.relation.specs.LeadingZeros.{LeadingZeros}
use Rattle.relation.specs.Shrink.{Stays, Shrinks, ShrinkCount, none, smaller, same}
use Rattle.relation.proofs.Vector.{vanishes_less}
use Rattle.relation.proofs.Existence.{same_while, differ_from, solve, pivot_sum}
use Rattle.relation.specs.ReducedBasis.{WeightBasis}

-- m exists at every order
pub zeros_exist : (p n : ℕ) (F : Vect) → Prime p → (s : ℕ) → (m : ℕ) × LeadingZeros p n F s m
zeros_exist p n F pr s = let S = solve p n (λ i. 0) F pr s in (S.lost, S.zeros)

module _ {p n : ℕ} {F : Vect} {s m : ℕ} (pr : Prime p) (z : LeadingZeros p n F s m) where
  -- before m, V_(j+1) has the members of V_j
  pub same_before : (j : ℕ) → j < m → Stays p n F j
  same_before j g P = (
    λ r. record { vector = r.vector; vanishes = same_while p n F j m g z.zeros P r.vanishes },
    λ r. record { vector = r.vector; vanishes = vanishes_less p n F j P r.vanishes },
  )

  -- from m on, some member of V_j is none of V_(j+1)
  pub smaller_from : (j : ℕ) → m ≤ j → j < s → (P : Vect) × Relation p n F j P × (¬ Relation p n F (suc j) P)
  smaller_from j g h =
      let i = z.next (omega arith) in
      let d = differ_from p n pr.above_one F j m i.0 g z.zeros i.1 i.2 in
      (d.0, record { vector = d.1; vanishes = d.2 }, λ r. d.3 r.vanishes)

  pub shrinks_from : (j : ℕ) → j < s → Shrinks p n F j ↔ (m ≤ j)
  shrinks_from j h = (
    λ sh. elim (dec_le m j) [ yes g ↦ g | no g ↦ absurd (sh (same_before j (omega arith))) ],
    λ g eq. let w = smaller_from j g h in w.2 ((eq w.0).0 w.1),
  )

  count_to : (t : ℕ) → t ≤ s → ShrinkCount p n F t (t - m)
  count_to zero h = let q : zero - m ≡ 0 = omega arith in rw q none
  count_to (suc t) h = elim (dec_le m t) [
    | yes g ↦
        let q : suc t - m ≡ suc (t - m) = omega arith in
        rw q (smaller ((shrinks_from t (omega arith)).1 g) (count_to t (omega arith)))
    | no g ↦
        let q : suc t - m ≡ t - m = omega arith in
        rw q (same (same_before t (omega arith)) (count_to t (omega arith)))
  ]

  pub shrink_count : ShrinkCount p n F s (s - m)
  shrink_count = count_to s (omega arith)

-- with any minimal basis, that is the sum of the pivot degrees
pub basis→count : {p n : ℕ} {b : ℕ → ℕ} {F : Vect} {s : ℕ} {Q : ℕ → Vect} {e : ℕ → ℕ} → Prime p → WeightBasis p n b F s Q e → ShrinkCount p n F s (sum_to n e)
basis→count {p} {n} {F} {s} {e} pr wb =
    let z = zeros_exist p n F pr s in
    let q : sum_to n e ≡ s - z.0 = omega (arith, pivot_sum pr wb z.0 z.1) in
    rw q (shrink_count pr z.1)

-- the count is one number
pub count_unique : {p n : ℕ} {F : Vect} {s c k : ℕ} → ShrinkCount p n F s c → ShrinkCount p n F s k → c ≡ k
count_unique none none = refl
count_unique (smaller a x) (smaller b y) = ap suc (count_unique x y)
count_unique (smaller a x) (same b y) = absurd (a b)
count_unique (same a x) (smaller b y) = absurd (b a)
count_unique (same a x) (same b y) = count_unique x y
