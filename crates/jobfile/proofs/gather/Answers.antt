-- The three words, the type and the series are written one after the other.
use Rattle.jobfile.proofs.Gathered.{gathered}
use Rattle.jobfile.proofs.gather.Goals as goal

pub returns : goal.returns
returns c =
    let job = c.args.job in
    gathered c.args.words.now job.sizes.p job.sizes.n job.sizes.s job.d.now job.series.now _ _ _ c.requires
    c.copy_from_slice.ensures.after c.copy_from_slice-2.ensures.after c.copy_from_slice-3.ensures.after
