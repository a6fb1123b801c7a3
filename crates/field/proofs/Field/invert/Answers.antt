-- Where the tests pass, the operand is 0 or has an inverse.
use Rattle.std.proofs.Common.{refl, inl, inr, arith}
use Rattle.std.proofs.lemmas.Result.{err_from_is_err_and}
use Rattle.field.specs.Calls.{InvertOutcome}
use Rattle.field.proofs.Tests.{passed, answers, refuses, operand_passed}
use Rattle.field.proofs.Field.invert.Goals as goal

pub returns-in_err-test_operand : goal.returns-in_err-test_operand
unfolding InvertOutcome
returns-in_err-test_operand c =
    let p = err_from_is_err_and c.from_residual.result c.from_residual.ensures.1 in
    rw (p.1, p.2) (refuses _ _ _ _ c.in_err-test_operand.ensures refl)

pub returns-then-a-eq0 : goal.returns-then-a-eq0
unfolding InvertOutcome
returns-then-a-eq0 c = answers _ _ _ _ c.in_ok-test_operand.ensures (inl (c.if-a-eq0.true, refl))

pub invariant_of-inverse : goal.invariant_of-inverse
invariant_of-inverse c = record { positive = omega (arith, (operand_passed _ _ (passed _ _ c.in_ok-test_operand.ensures)).1) }

pub inverse-requires : goal.inverse-requires
inverse-requires c =
    let n = operand_passed _ _ (passed _ _ c.in_ok-test_operand.ensures) in
    (n.0.prime, omega arith, n.1)

pub returns : goal.returns
unfolding InvertOutcome
returns c = answers _ _ _ _ c.in_ok-test_operand.ensures (inr (_, c.inverse.ensures, refl))
