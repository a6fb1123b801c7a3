-- `move_row` meets its contract: the first working row holds row i.
use mathlib.Core.Path.{◌≡◌, ap, ◌∙◌}
use Prim.Native.Nat.{◌*◌}
use native.Mathlib.Omega.{arith}
use lib.ListN.{length}
use Rattle.row.specs.View.{row as row_of}
use Rattle.words.proofs.Part.{part_fits, part_length}
use Rattle.step.proofs.move_row.Goals as goal
use Rattle.step.proofs.move_row.Goals.{After-part_at}

copied_length : (c : After-part_at)
    → let shape = c.args.shape.now in
    length c.part_at.result.now ≡ shape.n * shape.width
copied_length c =
    let shape = c.args.shape.now in
    let size = shape.n * shape.width in
    let fits = part_fits shape.n size c.args.by.now.i (omega arith) in
    ap length c.part_at.ensures ∙ part_length size c.args.by.now.i c.args.basis.now (omega arith)

pub copy_from_slice-requires : goal.copy_from_slice-requires
copy_from_slice-requires c = omega (arith, copied_length (goal.at.copy_from_slice-requires c).After-part_at)

pub move_by-requires : goal.move_by-requires
unfolding row_of
move_by-requires c =
    let copied = c.copy_from_slice.ensures.after in
    record { sizes = (omega arith, c.requires.sizes.1, ap length copied ∙ copied_length (goal.at.move_by-requires c).After-part_at, c.requires.sizes.3); tops_below = c.requires.tops_below; shape = c.requires.shape; pivot = rw (copied, c.part_at.ensures) }
