-- `identity` meets its contract: the first i rows are unit rows.
use mathlib.Core.Path.{◌∙◌}
use Prim.Native.Nat.{◌*◌}
use native.Mathlib.Omega.{arith}
use Rattle.row.specs.View.{row}
use Rattle.words.proofs.Part.{part_fits, lent_length}
use Rattle.words.proofs.Written.{parts_turn}
use Rattle.step.proofs.identity.Goals as goal

pub loop-i-preserved : goal.loop-i-preserved
loop-i-preserved c =
    let made = c.unit_row in
    let shape = c.args.shape.now in
    let l = c.loop-i in
    let size = shape.n * shape.width in
    let fits = part_fits shape.n size l.i (omega arith) in
    parts_turn size _ _ l.basis made.new.row l.i (omega arith) (made.ensures.0 ∙ lent_length size l.i l.basis (omega arith)) made.ensures.1 l.invariant

pub returns : goal.returns
unfolding row
returns c = (c.loop-i.invariant.same, λ l h. c.loop-i.invariant.done l (omega arith))
