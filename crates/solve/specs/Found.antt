-- A basis that is found: its words, its least row and its count.
use Rattle.std.specs.Prelude.{◌≡◌, List, ℕ, ◌+◌, length}
use Rattle.relation.specs.MinimalBasis.{MinimalBasis}
use Rattle.relation.specs.Reduced.{Reduced}
use Rattle.relation.specs.Approximant.{LeastRow}
use Rattle.relation.specs.Shrink.{ShrinkCount}
use Rattle.row.specs.View.{vector, row}
use Rattle.sizes.specs.Entry.{type_of}
use Rattle.sizes.specs.Lengths.{basis_length}

-- the words of `basis` are the reduced minimal basis of V_s: row i is in V_s, has type i and is least of its type.
-- A row is all its words, so what stands past an entry's degree is zero. `least`, counted from 0, is the least row,
-- and `count` of the orders 0 to s - 1 made V smaller
pub record BasisFound (p n s : ℕ) (d series basis : List ℕ) (least count : ℕ) : Type 0 where
  pub full : length basis ≡ basis_length n s
  pub minimal : MinimalBasis p n (vector s series) s (type_of d) (row n (s + 1) basis)
  pub reduced : Reduced n (row n (s + 1) basis)
  pub least_row : LeastRow n (type_of d) (row n (s + 1) basis) least
  pub shrinks : ShrinkCount p n (vector s series) s count
