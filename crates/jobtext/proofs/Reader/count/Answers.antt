-- `count` meets its contract: the number is taken and tested.
use Rattle.std.proofs.lemmas.Result.{err_from_is_err_and}
use borrow.Author.Tests.{tests}
use Rattle.std.proofs.Common.{rules}
use Rattle.jobtext.proofs.Reading.{passes, fails, stops, count_in, count_out}
use Rattle.jobtext.proofs.Reader.count.Goals as goal

pub returns-in_err-n : goal.returns-in_err-n
returns-in_err-n c =
    let p = err_from_is_err_and c.from_residual.result c.from_residual.ensures.1 in
    rw (p.1, p.2) (stops _ _ _ _ _ _ c.in_err-n.ensures)

pub returns-then-contains : goal.returns-then-contains
returns-then-contains c =
    let h = c.if-contains.ensures.cases in
    passes _ _ _ _ _ _ c.in_ok-n.ensures (count_in _ (search (rules, tests)) (search (rules, tests)))

pub returns-else-contains : goal.returns-else-contains
returns-else-contains c =
    let h = c.if-contains.ensures.cases in
    rw c.fault.ensures (fails _ _ _ _ _ _ c.in_ok-n.ensures (count_out _ (search (rules, tests))))
