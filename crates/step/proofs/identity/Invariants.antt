-- `identity` meets its contract: the first i rows are unit rows.
use mathlib.Core.Path.{◌≡◌}
use Rattle.relation.specs.Operations.{unit}
use Rattle.row.specs.View.{vector}
use Rattle.words.proofs.Written.{PartsDone}
use Rattle.step.proofs.identity.Given as goal

abbrev pub invariant-loop-i : goal.invariant-loop-i
invariant-loop-i l = PartsDone l.size (λ k ys. vector l.shape.width ys ≡ unit k) l.initial.basis l.basis l.i
