-- `reduced_basis` meets its contract: before each turn the rows are the reduced minimal basis of V_at, and the answer ends at row n. A row fits the working rows.
use mathlib.Core.Path.{◌≡◌}
use Prim.Native.Nat.{◌+◌, ◌*◌}
use lib.ListN.{length}
use Rattle.relation.specs.ReducedBasis.{ReducedBasis}
use Rattle.row.specs.View.{vector, row as row_of, degree_at}
use Rattle.step.specs.Offset.{offset_of, TopsEndAt}
use Rattle.step.proofs.reduced_basis.Given as goal

abbrev pub invariant-loop-at : goal.invariant-loop-at
invariant-loop-at l =
    let q = l.problem in record {
      full : length l.out ≡ q.n * (q.n * (q.s + 1));
      reduced : ReducedBasis q.field.modulus q.n (offset_of q.d.now) (vector q.s q.series.now) l.at (row_of q.n (q.s + 1) l.out) (degree_at l.tops);
      ends : TopsEndAt q.n l.tops;
    }
