-- What the reader left is an admitted job, whose basis fits the working words.
use Rattle.std.proofs.Common.{◌≡◌, ap, sym, inl, inr, ◌*◌, ◌≤◌, arith, take, length-take, length-take-le}
use Rattle.std.proofs.lemmas.List.{length-replicate}
use Rattle.sizes.specs.declared.JobSizes.{JobSizes}
use Rattle.words.proofs.Sizes.{series_small, basis_small}
use Rattle.sizes.specs.Lengths.{basis_length}
use Rattle.jobfile.specs.Job.{Admitted, job_of}
use Rattle.jobfile.specs.Layout.{layout}
use Rattle.jobfile.specs.Answers.{job_says}
use Rattle.report.specs.Text.{refusal_text}
use Rattle.report.specs.Calls.{RefusalTextOutcome}
use Rattle.jobreport.specs.Printed.{PrintOutcome, JobPrintOutcome}
use Rattle.jobreport.proofs.Print.{read_refused, read_job}
use Rattle.jobreport.proofs.print_job.Goals as goal
use Rattle.jobreport.proofs.print_job.Goals.{In-Ok}

abbrev sizes : In-Ok → JobSizes
sizes c = c.in-Ok.sizes

-- the job that was read
job : (c : In-Ok) →
    let n = (sizes c).n in
    let s = (sizes c).s in
    let there = job_of (sizes c).p n s (take n c.read_job.new.d) (take (n * s) c.read_job.new.series) in
    Admitted there × (c.args.file.now ≡ layout there)
job c = read_job _ _ _ _ _ _ c.read_job.ensures _ _ _ (ap job_says c.in-Ok.is)

-- it fits the working words
few : (c : In-Ok) → let n = (sizes c).n in let s = (sizes c).s in (n ≤ 8) × (n * s ≤ 2040) × (basis_length n s ≤ 16384)
few c =
    let a = (job c).0 in
    (a.n_to, series_small _ _ a.n_to a.s_to, basis_small _ _ a.n_to a.s_to)

pub slice_bounds-d-end : goal.slice_bounds-d-end
slice_bounds-d-end c =
    let k = (goal.at.slice_bounds-d-end c).In-Ok in
    omega (arith, (job k).0.type_length, length-take (sizes k).n c.read_job.new.d)

pub slice_bounds-job-end : goal.slice_bounds-job-end
slice_bounds-job-end c = sym (job (goal.at.slice_bounds-job-end c).In-Ok).0.type_length

pub slice_bounds-series-end : goal.slice_bounds-series-end
slice_bounds-series-end c =
    let k = (goal.at.slice_bounds-series-end c).In-Ok in
    omega (arith, (job k).0.series_length, length-take ((sizes k).n * (sizes k).s) c.read_job.new.series)

pub slice_bounds-job-end-in-Ok : goal.slice_bounds-job-end-in-Ok
slice_bounds-job-end-in-Ok c = sym (job (goal.at.slice_bounds-job-end-in-Ok c).In-Ok).0.series_length

pub overflow_mul-basis-in-Ok : goal.overflow_mul-basis-in-Ok
overflow_mul-basis-in-Ok c = let f = few (goal.at.overflow_mul-basis-in-Ok c).In-Ok in omega arith

pub slice_bounds-basis-end : goal.slice_bounds-basis-end
slice_bounds-basis-end c = (few (goal.at.slice_bounds-basis-end c).In-Ok).2

pub slice_bounds-print_basis-end : goal.slice_bounds-print_basis-end
slice_bounds-print_basis-end c = sym (length-take-le _ _ (rw length-replicate (few (goal.at.slice_bounds-print_basis-end c).In-Ok).2))

pub print_basis-requires : goal.print_basis-requires
print_basis-requires c =
    let k = (goal.at.print_basis-requires c).In-Ok in
    ((job k).0, length-take-le _ _ (rw length-replicate (few k).2))

pub returns-in-Err : goal.returns-in-Err
unfolding PrintOutcome RefusalTextOutcome
returns-in-Err c =
    (refusal_text _, inr (record { number = _; first = read_refused _ _ _ _ _ _ c.read_job.ensures _ (ap job_says c.in-Err.is); says = ap refusal_text c.number.ensures }), c.write_refusal.ensures)

pub returns-in-Ok : goal.returns-in-Ok
unfolding PrintOutcome JobPrintOutcome
returns-in-Ok c =
    let o = c.print_basis.ensures in
    let j = job (goal.at.returns-in-Ok c).In-Ok in
    (o.0, inl (record { job = _; admitted = j.0; laid_out = j.1; printed = o.1 }), o.2)
