-- `clear_rows` meets its contract: the first l rows but row i are cleared, and the others are as they were.
use mathlib.Core.Path.{◌≡◌}
use mathlib.Core.Logic.{◌≢◌}
use Prim.Native.Nat.{ℕ}
use lib.ListN.{get_or}
use Rattle.row.specs.View.{vector, row}
use Rattle.words.proofs.Written.{PartsDone}
use Rattle.relation.specs.Vector.{Vect}
use Rattle.relation.specs.Operations.{add_multiple}
use Rattle.step.specs.Factor.{factor}
use Rattle.step.proofs.clear_rows.Given as goal

abbrev pub invariant-loop-l : goal.invariant-loop-l
invariant-loop-l l =
    let m : ℕ → ℕ = factor l.f.modulus l.by.h (λ r. get_or l.by.c r 0) in
    let before : ℕ → Vect = row l.shape.n l.shape.width l.initial.basis in
    let cleared : ℕ → Vect = λ k. add_multiple l.f.modulus (m k) (vector l.shape.width l.pivot) (before k) in
    PartsDone l.size (λ k ys. (k ≢ l.by.i → vector l.shape.width ys ≡ cleared k) × (k ≡ l.by.i → vector l.shape.width ys ≡ before k)) l.initial.basis l.basis l.l
