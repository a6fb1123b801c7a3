-- `least_row` meets its contract: best is the least of the rows passed.
use lib.ListN.{length, get_or}
use Rattle.step.specs.Offset.{row_weight}
use Rattle.step.specs.Search.{LeastAmong}
use Rattle.step.proofs.least_row.Given as goal

abbrev pub invariant-loop-l : goal.invariant-loop-l
invariant-loop-l l = LeastAmong l.l (λ k. get_or l.fn.flags k 0) (row_weight (length l.d) l.d l.tops) l.best
