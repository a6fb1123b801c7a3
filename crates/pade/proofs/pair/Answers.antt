-- Where the tests pass, a fraction is written or there is none; a refusal writes nothing.
use Rattle.std.proofs.Common.{arith}
use Rattle.std.proofs.lemmas.Result.{err_from_is_err_and}
use Rattle.field.proofs.Tests.{passed}
use Rattle.pade.proofs.Admitted.{pair_lent}
use Rattle.pade.proofs.Worked.{refused, answered}
use Rattle.pade.proofs.pair.Goals as goal

pub returns-in_err-test_arguments : goal.returns-in_err-test_arguments
returns-in_err-test_arguments c =
    let p = err_from_is_err_and c.from_residual.result c.from_residual.ensures.1 in
    rw (p.1, p.2) (refused _ _ _ _ _ _ c.in_err-test_arguments.ensures)

pub invariant_of-request : goal.invariant_of-request
invariant_of-request c = record {
  positive = omega (arith, (pair_lent _ _ _ _ _ (passed _ _ c.in_ok-test_arguments.ensures)).sizes.modulus.prime.above_one);
}

pub invariant_of-request-2 : goal.invariant_of-request-2
invariant_of-request-2 c = record { sizes = (pair_lent _ _ _ _ _ (passed _ _ c.in_ok-test_arguments.ensures)).sizes }

pub write_fraction-requires : goal.write_fraction-requires
write_fraction-requires c =
    let lent = pair_lent _ _ _ _ _ (passed _ _ c.in_ok-test_arguments.ensures) in
    (lent.r_words, lent.t_words)

pub returns : goal.returns
returns c = answered _ _ _ _ _ _ _ (passed _ _ c.in_ok-test_arguments.ensures) _ c.write_fraction.ensures
