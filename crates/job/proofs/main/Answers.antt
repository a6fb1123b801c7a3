-- `main` is safe: what it hands on lies in its buffers.
use mathlib.Core.Path.{sym}
use lib.Seq.{length-take-le}
use Rattle.jobmake.proofs.MadeOf.{made_inside}
use Rattle.job.proofs.main.Goals as goal

pub slice_bounds-file-end : goal.slice_bounds-file-end
slice_bounds-file-end c = (made_inside _ _ _ _ _ _ c.make_file.ensures).0 _ c.in-Ok.is

pub slice_bounds-write_all-end : goal.slice_bounds-write_all-end
slice_bounds-write_all-end c = sym (length-take-le _ _ ((made_inside _ _ _ _ _ _ c.make_file.ensures).0 _ c.in-Ok.is))

pub slice_bounds-message-end : goal.slice_bounds-message-end
slice_bounds-message-end c = (made_inside _ _ _ _ _ _ c.make_file.ensures).1 _ c.in-Err.is

pub slice_bounds-write_all-end-in-Err : goal.slice_bounds-write_all-end-in-Err
slice_bounds-write_all-end-in-Err c = sym (length-take-le _ _ ((made_inside _ _ _ _ _ _ c.make_file.ensures).1 _ c.in-Err.is))
