-- Where the tests pass, the modulus is positive.
use Rattle.std.proofs.Common.{ℕ, [], ◌∷◌, refl, ap, arith}
use Rattle.std.proofs.lemmas.Result.{err_from_is_err_and}
use Rattle.field.specs.Answer.{result}
use Rattle.field.specs.Calls.{ResidueOutcome}
use Rattle.field.proofs.Tests.{passed, answers, refuses, modulus_passed}
use Rattle.field.proofs.Field.residue_of.Goals as goal

pub returns-in_err-test_operands : goal.returns-in_err-test_operands
unfolding ResidueOutcome
returns-in_err-test_operands c =
    let p = err_from_is_err_and c.from_residual.result c.from_residual.ensures.1 in
    rw (p.1, p.2) (refuses _ _ _ _ c.in_err-test_operands.ensures refl)

pub invariant_of-residue : goal.invariant_of-residue
invariant_of-residue c = record {
  positive = omega (arith, (modulus_passed _ _ (passed _ _ c.in_ok-test_operands.ensures)).prime.above_one);
}

pub returns : goal.returns
unfolding ResidueOutcome
returns c =
    answers _ _ _ _ c.in_ok-test_operands.ensures
    (ap (λ (x : ℕ). result (x ∷ [])) c.residue.ensures)
