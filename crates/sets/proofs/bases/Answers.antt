-- Where the tests of the whole call pass, each set is answered; a refusal writes nothing.
use Rattle.std.proofs.Common.{refl, arith}
use Rattle.std.proofs.lemmas.Result.{err_from_is_err_and}
use Rattle.field.proofs.Tests.{passed, answers, refuses}
use Rattle.sets.specs.Bases.{BasesOutcome}
use Rattle.sets.proofs.Admitted.{bases_sizes, types_of}
use Rattle.sets.proofs.bases.Goals as goal

pub returns-in_err-test_bases : goal.returns-in_err-test_bases
unfolding BasesOutcome
returns-in_err-test_bases c =
    let p = err_from_is_err_and c.from_residual.result c.from_residual.ensures.1 in
    rw (p.1, p.2) (refuses _ _ _ _ c.in_err-test_bases.ensures (refl, refl, refl))

pub invariant_of-sets : goal.invariant_of-sets
invariant_of-sets c = record { positive = omega (arith, (bases_sizes _ _ _ _ _ _ _ _ (passed _ _ c.in_ok-test_bases.ensures)).modulus.prime.above_one) }

pub invariant_of-sets-2 : goal.invariant_of-sets-2
invariant_of-sets-2 c =
    let z = bases_sizes _ _ _ _ _ _ _ _ (passed _ _ c.in_ok-test_bases.ensures) in
    record { prime = z.modulus.prime; some = z.n_from; few = z.n_to; short = z.s_to; types = types_of z; full = z.series_length }

pub answer_sets-requires : goal.answer_sets-requires
answer_sets-requires c =
    let z = bases_sizes _ _ _ _ _ _ _ _ (passed _ _ c.in_ok-test_bases.ensures) in
    (z.bases_words, z.answers_words)

pub returns : goal.returns
unfolding BasesOutcome
returns c = answers _ _ _ _ c.in_ok-test_bases.ensures (refl, c.answer_sets.ensures)
