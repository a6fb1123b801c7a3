-- The file is read where no test holds; a refusal writes nothing.
use Rattle.std.proofs.Common.{refl}
use Rattle.std.proofs.lemmas.Result.{err_from_is_err_and}
use Rattle.field.proofs.Tests.{passed, answers, refuses}
use Rattle.jobfile.specs.Outcomes.{ReadOutcome}
use Rattle.jobfile.proofs.read_job.Goals as goal

pub read_tested-requires : goal.read_tested-requires
read_tested-requires c = passed _ _ c.in_ok-test_file.ensures

pub returns-in_err-test_file : goal.returns-in_err-test_file
unfolding ReadOutcome
returns-in_err-test_file c =
    let p = err_from_is_err_and c.from_residual.result c.from_residual.ensures.1 in
    rw (p.1, p.2) (refuses _ _ _ _ c.in_err-test_file.ensures (refl, refl, refl))

pub returns : goal.returns
unfolding ReadOutcome
returns c = answers _ _ _ _ c.in_ok-test_file.ensures c.read_tested.ensures
