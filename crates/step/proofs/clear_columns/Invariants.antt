-- `clear_columns` meets its contract: after k turns the multiples of the first k rows are added.
use mathlib.Core.Path.{◌≡◌}
use lib.ListN.{length}
use Rattle.row.specs.View.{vector, row, degree_at}
use Rattle.relation.specs.Operations.{add_multiples}
use Rattle.step.specs.Factor.{column_factor}
use Rattle.step.proofs.clear_columns.Given as goal

abbrev pub invariant-loop-k : goal.invariant-loop-k
invariant-loop-k l =
    let m = column_factor l.f.modulus l.i (degree_at l.shape.tops) (vector l.shape.width l.initial.moved) in
    (length l.moved ≡ length l.initial.moved) × (vector l.shape.width l.moved ≡ add_multiples l.f.modulus l.k m (row l.shape.n l.shape.width l.basis) (vector l.shape.width l.initial.moved))
