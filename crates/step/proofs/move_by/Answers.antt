-- `move_by` meets its contract: it calls the parts of the step one after the other.
use mathlib.Core.Path.{◌≡◌, ap, sym, ◌∙◌}
use mathlib.Core.List.{List}
use Prim.Native.Nat.{ℕ, ◌+◌, ◌*◌, ◌<◌, ◌≤◌}
use native.Mathlib.Omega.{arith}
use lib.ListN.{length}
use Rattle.row.specs.View.{vector}
use Rattle.words.proofs.Part.{part_fits, lent_length, put_length}
use Rattle.step.proofs.Move.{cleared_ends, cleared_clear, moved_all, times_x_below}
use Rattle.step.proofs.move_by.Goals as goal
use Rattle.step.proofs.move_by.Goals.{After-clear_rows}

-- row i ends within the basis
row_fits : (c : After-clear_rows)
    → let shape = c.args.shape.now in
    c.args.by.now.i * (shape.n * shape.width) + shape.n * shape.width ≤ length c.clear_rows.new.basis
row_fits c =
    let shape = c.args.shape.now in
    omega (arith, part_fits shape.n (shape.n * shape.width) c.args.by.now.i (omega arith), c.clear_rows.ensures.0)

pub clear_rows-requires : goal.clear_rows-requires
clear_rows-requires c = record { sizes = (omega arith, c.requires.sizes.1, c.requires.sizes.2); tops_below = λ k h. omega (arith, c.requires.tops_below k h); residues = c.requires.shape.small; pivot_ends = λ k h t g. rw c.requires.pivot (c.requires.shape.ends _ (omega arith) k h t g) }

pub row_times_x-requires : goal.row_times_x-requires
row_times_x-requires c = record { sizes = (omega (arith, c.requires.tops_below c.args.by.now.i (omega arith)), c.requires.sizes.2, c.requires.sizes.3); room = λ k h. rw c.requires.pivot (c.requires.shape.ends _ (omega arith) k h _ (omega (arith, c.requires.tops_below k h))) }

pub clear_columns-requires : goal.clear_columns-requires
clear_columns-requires c =
    let shape = c.requires.shape in
    let hi : c.args.by.now.i < c.args.shape.now.n = omega arith in
    let rows = c.clear_rows.ensures in
    let times-x = c.row_times_x.ensures in
    record { sizes = (rows.0 ∙ c.requires.sizes.1, times-x.0 ∙ c.requires.sizes.3); tops_below = λ k h. omega (arith, c.requires.tops_below k h); residues = λ k t. rw (times-x.1, c.requires.pivot) (times_x_below _ _ (omega arith) (shape.small _ (omega arith)) k t); rows_end = λ l h ne. cleared_ends _ _ _ _ _ _ hi shape l h _ (rw c.requires.pivot at (rows.1 l h ne)); columns_clear = λ l k h hk li ki ne. cleared_clear _ _ _ _ _ _ hi shape l h _ (rw c.requires.pivot at (rows.1 l h li)) k hk ne ki }

pub copy_from_slice-requires : goal.copy_from_slice-requires
copy_from_slice-requires c =
    let shape = c.args.shape.now in
    lent_length (shape.n * shape.width) c.args.by.now.i c.clear_rows.new.basis (row_fits (goal.at.copy_from_slice-requires c).After-clear_rows)
    ∙ sym (c.clear_columns.ensures.0 ∙ c.row_times_x.ensures.0 ∙ c.requires.sizes.3)

pub returns : goal.returns
returns c =
    let args = c.args in
    let shape = args.shape.now in
    let size = shape.n * shape.width in
    let rows = c.clear_rows in
    let times-x = c.row_times_x in
    let copied = c.copy_from_slice in
    let full : length copied.new.self ≡ size = ap length copied.ensures.after ∙ c.clear_columns.ensures.0 ∙ times-x.ensures.0 ∙ c.requires.sizes.3 in
    let last = ap (λ (l : List ℕ). vector shape.width l) copied.ensures.after ∙ c.clear_columns.ensures.1 in (
      put_length size args.by.now.i rows.new.basis copied.new.self (row_fits (goal.at.returns c).After-clear_rows) full ∙ rows.ensures.0,
      moved_all _ _ _ _ _ _ _ _ _ _ _ (omega arith) (rows.ensures.0 ∙ c.requires.sizes.1) full c.requires.pivot rows.ensures.1 times-x.ensures.1 last,
    )
