-- The job is written where no test holds; a refusal writes nothing.
use Rattle.std.proofs.Common.{refl}
use Rattle.std.proofs.lemmas.Result.{err_from_is_err_and}
use Rattle.field.proofs.Tests.{passed, answers, refuses}
use Rattle.jobfile.specs.Outcomes.{WriteOutcome}
use Rattle.jobfile.proofs.Passed.{writer_passed}
use Rattle.jobfile.proofs.write_job.Goals as goal

pub write_tested-requires : goal.write_tested-requires
write_tested-requires c = writer_passed _ _ _ _ _ _ (passed _ _ c.in_ok-test_job.ensures)

pub returns-in_err-test_job : goal.returns-in_err-test_job
unfolding WriteOutcome
returns-in_err-test_job c =
    let p = err_from_is_err_and c.from_residual.result c.from_residual.ensures.1 in
    rw (p.1, p.2) (refuses _ _ _ _ c.in_err-test_job.ensures (refl, refl))

pub returns : goal.returns
unfolding WriteOutcome
returns c = answers _ _ _ _ c.in_ok-test_job.ensures c.write_tested.ensures
