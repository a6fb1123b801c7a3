-- `put_numbers` meets its contract: a number in each turn.
use mathlib.Core.Path.{◌≡◌}
use native.Mathlib.Omega.{arith}
use lib.ListN.{length}
use Rattle.report.specs.Text.{numbers}
use Rattle.report.proofs.Appended.{none_yet, turn, turn_room}
use Rattle.report.proofs.Writer.put_numbers.Goals as goal

pub loop-word-init : goal.loop-word-init
loop-word-init c = none_yet _ _

pub put_number-requires : goal.put_number-requires
unfolding numbers
put_number-requires c = turn_room _ _ c.loop-word.invariant _ (omega arith) c.requires

pub loop-word-preserved : goal.loop-word-preserved
loop-word-preserved c = turn _ _ c.loop-word.invariant c.put_number.ensures

pub returns : goal.returns
unfolding numbers
returns c =
    let e : c.loop-word.word-index ≡ length c.args.words.now = omega arith in
    rw e at c.loop-word.invariant
