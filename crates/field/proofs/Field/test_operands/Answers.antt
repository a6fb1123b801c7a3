-- One test more than for one operand.
use Rattle.std.proofs.Common.{Ok, Err, arith}
use Rattle.std.proofs.lemmas.Result.{err_from_is_err_and}
use Rattle.field.specs.declared.Refusal.{Refusal}
use Rattle.field.proofs.Tests.{here, later, no_more, and_then, and_stop}
use Rattle.field.proofs.Field.test_operands.Goals as goal

pub returns-in_err-test_operand : goal.returns-in_err-test_operand
returns-in_err-test_operand c =
    let p = err_from_is_err_and c.from_residual.result c.from_residual.ensures.1 in
    rw (p.1, p.2) (and_stop _ _ _ c.in_err-test_operand.ensures)

pub returns-then-second-p : goal.returns-then-second-p
returns-then-second-p c = and_then _ _ _ (Err Refusal.Coefficient) c.in_ok-test_operand.ensures (here _ _ Refusal.Coefficient (omega arith))

pub returns : goal.returns
returns c = and_then _ _ _ (Ok _) c.in_ok-test_operand.ensures (later _ _ (Ok _) (omega arith) (no_more _))
