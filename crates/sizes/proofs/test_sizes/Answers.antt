-- The modulus and the number of series, then the order.
use Rattle.std.proofs.Common.{Ok, Err, arith}
use Rattle.std.proofs.lemmas.Result.{err_from_is_err_and}
use Rattle.field.specs.declared.Refusal.{Refusal}
use Rattle.field.proofs.Tests.{here, later, no_more, and_then, and_stop}
use Rattle.sizes.proofs.test_sizes.Goals as goal

pub returns-in_err-test_start : goal.returns-in_err-test_start
returns-in_err-test_start c =
    let p = err_from_is_err_and c.from_residual.result c.from_residual.ensures.1 in
    rw (p.1, p.2) (and_stop _ _ _ c.in_err-test_start.ensures)

pub returns-then-sizes-gt255 : goal.returns-then-sizes-gt255
returns-then-sizes-gt255 c = and_then _ _ _ (Err Refusal.Order) c.in_ok-test_start.ensures (here _ _ Refusal.Order (omega arith))

pub returns : goal.returns
returns c = and_then _ _ _ (Ok _) c.in_ok-test_start.ensures (later _ _ (Ok _) (omega arith) (no_more _))
