-- The basis at the order σ of the type, where the tests pass; a refusal writes nothing.
use Rattle.std.proofs.Common.{◌≡◌, refl, arith}
use Rattle.std.proofs.lemmas.Result.{err_from_is_err_and}
use Rattle.field.proofs.Tests.{passed, answers, refuses}
use Rattle.solve.proofs.Work.{type_length}
use Rattle.engine.specs.Sigma.{order_of}
use Rattle.engine.specs.Approximant.{ApproximantOutcome}
use Rattle.engine.proofs.Admitted.{approximant_sizes}
use Rattle.engine.proofs.Sigma.{approximated_of}
use Rattle.engine.proofs.approximant.Goals as goal

pub returns-in_err-test_approximant : goal.returns-in_err-test_approximant
unfolding ApproximantOutcome
returns-in_err-test_approximant c =
    let p = err_from_is_err_and c.from_residual.result c.from_residual.ensures.1 in
    rw (p.1, p.2) (refuses _ _ _ _ c.in_err-test_approximant.ensures (refl, refl))

pub order_of-requires : goal.order_of-requires
order_of-requires c =
    let z = approximant_sizes c.args.p c.args.n c.args.d.now c.args.series.now _ (passed _ _ c.in_ok-test_approximant.ensures) in
    (omega (arith, z.type_length, z.n_from), omega (arith, z.type_length, z.n_to), z.entries)

pub invariant_of-problem : goal.invariant_of-problem
invariant_of-problem c =
    let z = approximant_sizes c.args.p c.args.n c.args.d.now c.args.series.now _ (passed _ _ c.in_ok-test_approximant.ensures) in
    record { positive = omega (arith, z.modulus.prime.above_one) }

pub invariant_of-problem-2 : goal.invariant_of-problem-2
invariant_of-problem-2 c =
    let z = approximant_sizes c.args.p c.args.n c.args.d.now c.args.series.now _ (passed _ _ c.in_ok-test_approximant.ensures) in
    let order : c.order_of.result ≡ order_of c.args.n c.args.d.now = rw z.type_length at c.order_of.ensures.0 in
    record { prime = z.modulus.prime; few = z.n_to; short = omega (arith, order, z.s_to); types = type_length z; full = rw order z.series_length }

pub answered-requires : goal.answered-requires
answered-requires c =
    let z = approximant_sizes c.args.p c.args.n c.args.d.now c.args.series.now _ (passed _ _ c.in_ok-test_approximant.ensures) in
    let order : c.order_of.result ≡ order_of c.args.n c.args.d.now = rw z.type_length at c.order_of.ensures.0 in
    (z.n_from, rw order z.basis_words)

pub returns : goal.returns
unfolding ApproximantOutcome
returns c =
    let z = approximant_sizes c.args.p c.args.n c.args.d.now c.args.series.now _ (passed _ _ c.in_ok-test_approximant.ensures) in
    let order : c.order_of.result ≡ order_of c.args.n c.args.d.now = rw z.type_length at c.order_of.ensures.0 in
    answers _ _ _ _ c.in_ok-test_approximant.ensures (approximated_of z.n_from (rw order at c.answered.ensures))
