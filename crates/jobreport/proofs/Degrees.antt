-- The printed degrees are degrees: in the text of a basis that was found, the line of row i has its pivot degree and its shifted degree.
use mathlib.Core.Path.{◌≡◌, ap}
use mathlib.Core.List.{List}
use Prim.Native.Nat.{ℕ, ◌+◌, ◌*◌, ◌<◌}
use lib.IntN.{ℤ}
use lib.ListN.{get_or}
use Rattle.relation.specs.Pivot.{Pivot}
use Rattle.relation.specs.ShiftedDegree.{ShiftedDegree}
use Rattle.words.specs.Part.{part}
use Rattle.words.specs.Polynomial.{poly}
use Rattle.sizes.specs.Entry.{type_of}
use Rattle.row.specs.View.{vector, row}
use Rattle.solve.specs.Found.{BasisFound}
use Rattle.report.specs.Text.{shifted_degree, pivot_line, row_line}
use Rattle.report.proofs.Entry.{degree_is}

-- the line of row i at its words l
pub record DegreesPrinted (n w : ℕ) (d basis : List ℕ) (i : ℕ) (l : List ℕ) : Type 0 where
  pub deg : ℕ
  pub shifted : ℤ
  pub pivot : Pivot (row n w basis) i deg
  pub shifted_is : ShiftedDegree n (type_of d) (row n w basis i) shifted
  pub says : row_line n w (get_or d i 0) i l ≡ pivot_line n w deg shifted i l

pub degrees_printed : {p n s : ℕ} {d series basis : List ℕ} {least count : ℕ} → BasisFound p n s d series basis least count
    → (i : ℕ) → i < n → DegreesPrinted n (s + 1) d basis i (part (n * (s + 1)) i basis)
unfolding row vector poly row_line shifted_degree
degrees_printed {p} {n} {s} {d} {series} {basis} found i h =
    let type = found.minimal.types i h in
    let pivot = type.attains in
    let same = degree_is (part (s + 1) i (part (n * (s + 1)) i basis)) pivot.deg pivot.degree.leading pivot.degree.above in
    record {
      deg = pivot.deg;
      shifted = type.δ;
      pivot = pivot.degree;
      shifted_is = type.degree;
      says = rw same (ap (λ (x : ℤ). pivot_line n (s + 1) pivot.deg x i (part (n * (s + 1)) i basis)) pivot.shifted);
    }
