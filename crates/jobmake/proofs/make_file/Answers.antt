-- `make_file` meets its contract: the job that was parsed is admitted, so that its layout is written; else the message is.
use mathlib.Core.Path.{sym}
use Prim.Native.Nat.{◌*◌, ◌≤◌}
use native.Mathlib.Omega.{arith}
use lib.ListN.{length-take}
use Rattle.words.proofs.Sizes.{series_small}
use Rattle.jobtext.specs.Job.{job_of_text}
use Rattle.jobmake.proofs.Admitted.{text_right}
use Rattle.jobmake.proofs.MadeOf.{Read, parsed_job, parsed_wrong, made_file, made_message}
use Rattle.jobmake.proofs.make_file.Goals as goal
use Rattle.jobmake.proofs.make_file.Goals.{In-Ok}

-- the job, in the words that the parser left; its sizes are read there
job : (c : In-Ok) →
    let q = c.in-Ok.sizes in
    Read (job_of_text c.args.text.now) q.p q.n q.s c.parse.new.types c.parse.new.series
job c =
    parsed_job _ _ _ _ _ _ (text_right _) c.parse.ensures _ c.in-Ok.is

few : (c : In-Ok) →
    let q = c.in-Ok.sizes in
    (q.n ≤ 8) × (q.s ≤ 255) × (q.n * q.s ≤ 2040)
few c =
    let a = (job c).admitted in
    (a.n_to, a.s_to, series_small _ _ a.n_to a.s_to)

pub slice_bounds-d-end : goal.slice_bounds-d-end
slice_bounds-d-end c =
    omega (arith, (job (goal.at.slice_bounds-d-end c).In-Ok).admitted.type_length, length-take c.in-Ok.sizes.n c.parse.new.types)

pub slice_bounds-job-end : goal.slice_bounds-job-end
slice_bounds-job-end c = sym (job (goal.at.slice_bounds-job-end c).In-Ok).admitted.type_length

pub slice_bounds-series-end : goal.slice_bounds-series-end
slice_bounds-series-end c =
    let q = c.in-Ok.sizes in
    omega (arith, (job (goal.at.slice_bounds-series-end c).In-Ok).admitted.series_length, length-take (q.n * q.s) c.parse.new.series)

pub slice_bounds-job-end-in-Ok : goal.slice_bounds-job-end-in-Ok
slice_bounds-job-end-in-Ok c = sym (job (goal.at.slice_bounds-job-end-in-Ok c).In-Ok).admitted.series_length

pub lay_out-requires : goal.lay_out-requires
lay_out-requires c = (job (goal.at.lay_out-requires c).In-Ok).admitted

pub returns-in-Ok : goal.returns-in-Ok
returns-in-Ok c =
    let made = c.lay_out.ensures in
    made_file _ _ _ _ _ _ _ _ _ _ (job (goal.at.returns-in-Ok c).In-Ok).same made.0 made.1

pub returns-in-Err : goal.returns-in-Err
returns-in-Err c =
    let made = c.write_message-length.ensures in
    made_message _ _ _ _ _ _ _ (parsed_wrong _ _ _ _ _ _ c.parse.ensures _ c.in-Err.is) made.0 made.1
