-- The starred cases C1 to C10 of document 01, as one table in the terms of the definitions; C8 is in lowest terms, and C9 has no fraction.
-- Polynomials are lists, low coefficients first. Rows are counted from 1 here, as in document 01.
use Rattle.std.specs.Prelude.{◌≡◌, List, [], ◌∷◌, ℕ, suc, ◌<◌, ℤ, pos, length, get_or}
use Rattle.field.specs.Prime.{Prime}
use Rattle.field.specs.Inverse.{Inverse}
use Rattle.words.specs.Polynomial.{poly}
use Rattle.sizes.specs.Entry.{type_of}
use Rattle.relation.specs.Vector.{Vect}
use Rattle.relation.specs.ShiftedDegree.{ShiftedDegree}
use Rattle.relation.specs.MinimalBasis.{MinimalBasis}
use Rattle.relation.specs.Pivot.{Pivot}
use Rattle.relation.specs.Reduced.{Reduced}
use Rattle.relation.specs.Shrink.{ShrinkCount}
use Rattle.relation.specs.Approximant.{LeastRow, Approximant}
use Rattle.relation.specs.Fraction.{HasFraction, LowestFraction}

-- the vector whose entry i is list i, and the rows whose row i is that of list i
abbrev pub listed : List (List ℕ) → Vect
listed l i = poly (get_or l i [])

abbrev pub listed_rows : List (List (List ℕ)) → ℕ → Vect
listed_rows l i = listed (get_or l i [])

pub record StarredJob : Type 0 where
  pub p : ℕ
  pub n : ℕ
  pub s : ℕ
  pub type : List ℕ
  pub series : List (List ℕ)

pub record StarredAnswer : Type 0 where
  pub rows : List (List (List ℕ))
  pub pivots : List ℕ
  pub degrees : List ℤ
  pub least : ℕ
  pub count : ℕ

-- the answer is right for p, n series F, order s and type d
pub record Right (p n : ℕ) (F : Vect) (s : ℕ) (d : ℕ → ℤ) (a : StarredAnswer) : Type 0 where
  pub prime : Prime p
  pub basis : MinimalBasis p n F s d (listed_rows a.rows)
  pub reduced : Reduced n (listed_rows a.rows)
  pub pivots : (i : ℕ) → i < n → Pivot (listed_rows a.rows) i (get_or a.pivots i 0)
  pub degrees : (i : ℕ) → i < n → ShiftedDegree n d (listed_rows a.rows i) (get_or a.degrees i (pos 0))
  pub least : (i : ℕ) × (suc i ≡ a.least) × LeastRow n d (listed_rows a.rows) i
  pub count : ShrinkCount p n F s a.count

-- a pair, and that there is none, name the basis that shows it
pub data Case : Type 0 where
  basis : StarredJob → StarredAnswer → Case
  approximant : StarredJob → StarredAnswer → Case
  pair : (p k : ℕ) (g r t : List ℕ) → StarredAnswer → Case
  no_fraction : (p k : ℕ) (g : List ℕ) → StarredAnswer → Case
  inverse : (p a b : ℕ) → Case

unfoldable pub Holds : Case → Type 0
Holds (basis j a) = Right j.p j.n (listed j.series) j.s (type_of j.type) a
Holds (approximant j a) =
    (r : Right j.p j.n (listed j.series) j.s (type_of j.type) a)
    × Approximant j.p j.n (listed j.series) (type_of j.type) j.s (listed_rows a.rows) r.least.0
Holds (pair p k g r t a) = Prime p × LowestFraction p k (length g) (poly g) (poly r) (poly t)
Holds (no_fraction p k g a) = Prime p × (¬ HasFraction p k (length g) (poly g))
Holds (inverse p a b) = Prime p × Inverse p a b

-- every case of a list holds
unfoldable pub AllHold : List Case → Type 0
AllHold [] = Unit
AllHold (c ∷ cs) = Holds c × AllHold cs

abbrev pub c1 : StarredJob
c1 = record { p = 7; n = 2; s = 3; type = 0 ∷ 2 ∷ []; series = (6 ∷ 0 ∷ 0 ∷ []) ∷ (1 ∷ 1 ∷ 2 ∷ []) ∷ [] }

abbrev pub c1_answer : StarredAnswer
c1_answer = record {
  rows = ((6 ∷ 1 ∷ []) ∷ (6 ∷ 2 ∷ []) ∷ []) ∷ ((6 ∷ []) ∷ (6 ∷ 1 ∷ 1 ∷ []) ∷ []) ∷ [];
  pivots = 1 ∷ 2 ∷ [];
  degrees = pos 1 ∷ pos 0 ∷ [];
  least = 2;
  count = 3;
}

abbrev pub c2 : Case
c2 = basis (record { p = 7; n = 2; s = 1; type = 0 ∷ 0 ∷ []; series = (1 ∷ []) ∷ (1 ∷ []) ∷ [] }) (record {
  rows = ((0 ∷ 1 ∷ []) ∷ (0 ∷ []) ∷ []) ∷ ((6 ∷ []) ∷ (1 ∷ []) ∷ []) ∷ [];
  pivots = 1 ∷ 0 ∷ [];
  degrees = pos 1 ∷ pos 0 ∷ [];
  least = 2;
  count = 1;
})

abbrev pub c3 : Case
c3 = basis (record { p = 7; n = 2; s = 1; type = 0 ∷ 1 ∷ []; series = (1 ∷ []) ∷ (1 ∷ []) ∷ [] }) (record {
  rows = ((1 ∷ []) ∷ (6 ∷ []) ∷ []) ∷ ((0 ∷ []) ∷ (0 ∷ 1 ∷ []) ∷ []) ∷ [];
  pivots = 0 ∷ 1 ∷ [];
  degrees = pos 0 ∷ pos 0 ∷ [];
  least = 1;
  count = 1;
})

abbrev pub c4 : Case
c4 = basis (record { p = 2; n = 3; s = 1; type = 0 ∷ 0 ∷ 0 ∷ []; series = (1 ∷ []) ∷ (1 ∷ []) ∷ (1 ∷ []) ∷ [] }) (record {
  rows = ((0 ∷ 1 ∷ []) ∷ (0 ∷ []) ∷ (0 ∷ []) ∷ []) ∷ ((1 ∷ []) ∷ (1 ∷ []) ∷ (0 ∷ []) ∷ []) ∷ ((1 ∷ []) ∷ (0 ∷ []) ∷ (1 ∷ []) ∷ []) ∷ [];
  pivots = 1 ∷ 0 ∷ 0 ∷ [];
  degrees = pos 1 ∷ pos 0 ∷ pos 0 ∷ [];
  least = 2;
  count = 1;
})

abbrev pub c5 : Case
c5 = basis (record { p = 7; n = 1; s = 2; type = 0 ∷ []; series = (0 ∷ 5 ∷ []) ∷ [] }) (record {
  rows = ((0 ∷ 1 ∷ []) ∷ []) ∷ [];
  pivots = 1 ∷ [];
  degrees = pos 1 ∷ [];
  least = 1;
  count = 1;
})

abbrev pub c6 : Case
c6 = basis (record { p = 7; n = 2; s = 2; type = 0 ∷ 0 ∷ []; series = (0 ∷ 0 ∷ []) ∷ (0 ∷ 0 ∷ []) ∷ [] }) (record {
  rows = ((1 ∷ []) ∷ (0 ∷ []) ∷ []) ∷ ((0 ∷ []) ∷ (1 ∷ []) ∷ []) ∷ [];
  pivots = 0 ∷ 0 ∷ [];
  degrees = pos 0 ∷ pos 0 ∷ [];
  least = 1;
  count = 0;
})

abbrev pub c7 : StarredJob
c7 = record { p = 7; n = 1; s = 0; type = 0 ∷ []; series = [] ∷ [] }

abbrev pub c7_answer : StarredAnswer
c7_answer = record { rows = ((1 ∷ []) ∷ []) ∷ []; pivots = 0 ∷ []; degrees = pos 0 ∷ []; least = 1; count = 0 }

abbrev pub c9 : Case
c9 = no_fraction 7 1 (0 ∷ 1 ∷ []) (record {
  rows = ((0 ∷ 1 ∷ []) ∷ (1 ∷ []) ∷ []) ∷ ((0 ∷ []) ∷ (0 ∷ 1 ∷ []) ∷ []) ∷ [];
  pivots = 1 ∷ 1 ∷ [];
  degrees = pos 1 ∷ pos 0 ∷ [];
  least = 2;
  count = 2;
})

-- C1 to C10; the approximant of C7 is the same as its basis, the pair of C8 is read from the basis of C1, and C9 has none
abbrev pub starred : List Case
starred =
    basis c1 c1_answer
    ∷ c2
    ∷ c3
    ∷ c4
    ∷ c5
    ∷ c6
    ∷ basis c7 c7_answer
    ∷ approximant c7 c7_answer
    ∷ pair 7 1 (1 ∷ 1 ∷ 2 ∷ []) (1 ∷ []) (1 ∷ 6 ∷ 6 ∷ []) c1_answer
    ∷ c9
    ∷ inverse 7 3 5
    ∷ []
