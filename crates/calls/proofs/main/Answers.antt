-- `main` lends its arrays. Their lengths are read off how they are made, since counting so many elements takes long.
use Rattle.std.proofs.Common.{ℕ, sym}
use lib.ListN.{length-replicate}
use Rattle.calls.proofs.main.Goals as goal

pub slice_bounds-answer_all-end : goal.slice_bounds-answer_all-end
slice_bounds-answer_all-end c = sym (length-replicate {A = ℕ} 524288 0)
