-- `below` meets its contract: the number is taken and tested.
use borrow.Author.Tests.{lt-ltb, le-ltb}
use Rattle.std.proofs.lemmas.Result.{err_from_is_err_and}
use Rattle.jobtext.specs.Job.{is_below}
use Rattle.jobtext.proofs.Reading.{passes, fails, stops}
use Rattle.jobtext.proofs.Reader.below.Goals as goal

pub returns-in_err-value : goal.returns-in_err-value
returns-in_err-value c =
    let p = err_from_is_err_and c.from_residual.result c.from_residual.ensures.1 in
    rw (p.1, p.2) (stops _ _ _ _ _ _ c.in_err-value.ensures)

pub returns-then-value-limit : goal.returns-then-value-limit
unfolding is_below
returns-then-value-limit c = passes _ _ _ _ _ _ c.in_ok-value.ensures (lt-ltb _ _ c.if-value-limit.true)

pub returns-else-value-limit : goal.returns-else-value-limit
unfolding is_below
returns-else-value-limit c = rw c.fault.ensures (fails _ _ _ _ _ _ c.in_ok-value.ensures (le-ltb _ _ c.if-value-limit.false))
