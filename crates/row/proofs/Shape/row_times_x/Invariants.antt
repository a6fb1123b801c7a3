-- `Shape::row_times_x` meets its contract: the first k entries are those of X times the row.
use mathlib.Core.Path.{◌≡◌}
use Prim.Native.Nat.{ℕ}
use Rattle.words.specs.Polynomial.{poly}
use Rattle.row.specs.View.{vector}
use Rattle.words.proofs.Written.{PartsDone}
use Rattle.relation.specs.Operations.{times_x}
use Rattle.row.proofs.Shape.row_times_x.Given as goal

abbrev pub invariant-loop-k : goal.invariant-loop-k
invariant-loop-k live = PartsDone live.self.width (λ l ys. (t : ℕ) → poly ys t ≡ times_x (vector live.self.width live.row) l t) live.initial.into live.into live.k
