-- The sizes, then the buffers: the output first, then type and series as for a basis.
use Rattle.std.proofs.Common.{Err}
use Rattle.std.proofs.lemmas.Result.{err_from_is_err_and}
use Rattle.field.specs.declared.Refusal.{Refusal}
use Rattle.field.proofs.Tests.{passed, here, later, and_then, and_stop}
use Rattle.field.proofs.Truth.{exact}
use Rattle.jobfile.proofs.Passed.{sizes_fit}
use Rattle.jobfile.proofs.test_job.Goals as goal

pub test_job-requires : goal.test_job-requires
test_job-requires c =
    let fit = sizes_fit _ _ _ (passed _ _ c.in_ok-test_sizes.ensures) in
    (fit.n_to, fit.s_to)

pub returns-in_err-test_sizes : goal.returns-in_err-test_sizes
returns-in_err-test_sizes c =
    let p = err_from_is_err_and c.from_residual.result c.from_residual.ensures.1 in
    rw (p.1, p.2) (and_stop _ _ _ c.in_err-test_sizes.ensures)

pub returns-then-out-ne-FILE_BYTES : goal.returns-then-out-ne-FILE_BYTES
returns-then-out-ne-FILE_BYTES c = and_then _ _ _ (Err Refusal.Length) c.in_ok-test_sizes.ensures (here _ _ Refusal.Length c.if-out-ne-FILE_BYTES.true)

pub returns : goal.returns
returns c = and_then _ _ _ c.test_job.result c.in_ok-test_sizes.ensures (later _ _ c.test_job.result (exact c.if-out-ne-FILE_BYTES.false) c.test_job.ensures)
