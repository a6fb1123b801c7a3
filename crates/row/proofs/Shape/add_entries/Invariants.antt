-- `Shape::add_entries` meets its contract: the first k entries have the multiple added, and the others are as they were.
use mathlib.Core.Path.{◌≡◌}
use Prim.Native.Nat.{ℕ}
use Rattle.words.specs.Polynomial.{poly}
use Rattle.row.specs.View.{vector}
use Rattle.words.proofs.Written.{PartsDone}
use Rattle.relation.specs.Operations.{add_multiple}
use Rattle.row.proofs.Shape.add_entries.Given as goal

abbrev pub invariant-loop-k : goal.invariant-loop-k
invariant-loop-k live = PartsDone live.self.width (λ l ys. (t : ℕ) → poly ys t ≡ add_multiple live.f.modulus live.m.factor (vector live.self.width live.from) (vector live.self.width live.initial.row) l t) live.initial.row live.row live.k
