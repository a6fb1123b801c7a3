-- Where the tests pass, the basis is worked out; a refusal writes nothing.
use Rattle.std.proofs.Common.{refl, arith}
use Rattle.std.proofs.lemmas.Result.{err_from_is_err_and}
use Rattle.field.proofs.Tests.{passed, answers, refuses}
use Rattle.solve.proofs.Work.{type_length}
use Rattle.engine.specs.Basis.{BasisOutcome}
use Rattle.engine.proofs.Admitted.{basis_sizes}
use Rattle.engine.proofs.basis.Goals as goal

pub returns-in_err-test_basis : goal.returns-in_err-test_basis
unfolding BasisOutcome
returns-in_err-test_basis c =
    let p = err_from_is_err_and c.from_residual.result c.from_residual.ensures.1 in
    rw (p.1, p.2) (refuses _ _ _ _ c.in_err-test_basis.ensures (refl, refl))

pub invariant_of-problem : goal.invariant_of-problem
invariant_of-problem c = record { positive = omega (arith, (basis_sizes _ _ _ _ _ _ (passed _ _ c.in_ok-test_basis.ensures)).modulus.prime.above_one) }

pub invariant_of-problem-2 : goal.invariant_of-problem-2
invariant_of-problem-2 c =
    let z = basis_sizes _ _ _ _ _ _ (passed _ _ c.in_ok-test_basis.ensures) in
    record { prime = z.modulus.prime; few = z.n_to; short = z.s_to; types = type_length z; full = z.series_length }

pub answered-requires : goal.answered-requires
answered-requires c =
    let z = basis_sizes _ _ _ _ _ _ (passed _ _ c.in_ok-test_basis.ensures) in
    (z.n_from, z.basis_words)

pub returns : goal.returns
unfolding BasisOutcome
returns c = answers _ _ _ _ c.in_ok-test_basis.ensures c.answered.ensures
