-- `clear_columns` meets its contract: after k turns the multiples of the first k rows are added.
use mathlib.Core.Path.{◌≡◌, refl, ap, ◌∙◌}
use Prim.Native.Nat.{◌*◌}
use native.Mathlib.Nat.{le_of_lt}
use native.Mathlib.Omega.{arith}
use lib.ListN.{length}
use Rattle.row.specs.View.{row}
use Rattle.row.proofs.Part.{vector_at}
use Rattle.words.proofs.Part.{part_fits, part_length}
use Rattle.step.proofs.Columns.{add_multiples_below, add_multiples_start, still, add_turn, skip_turn}
use Rattle.step.proofs.clear_columns.Goals as goal
use Rattle.step.proofs.clear_columns.Goals.{then-k-i, else-k-i}

pub loop-k-init : goal.loop-k-init
loop-k-init c = (refl, add_multiples_start _ _ _ _ c.requires.residues)

pub overflow_sub-a : goal.overflow_sub-a
overflow_sub-a c =
    let l = c.loop-k in
    let top = c.requires.tops_below l.k (omega arith) in
    le_of_lt (rw (vector_at c.args.shape.now.width l.k l.moved _ top, l.invariant.1) (add_multiples_below _ _ _ _ _ (omega arith) _ _))

pub add_row_multiple-requires : goal.add_row_multiple-requires
unfolding row
add_row_multiple-requires c =
    let shape = c.args.shape.now in
    let l = c.loop-k in
    let size = shape.n * shape.width in
    let fits = part_fits shape.n size l.k (omega arith) in
    let other = c.if-k-i.true in
    record { sizes = (l.invariant.0 ∙ c.requires.sizes.1, ap length c.part_at.ensures ∙ part_length size l.k c.args.basis.now (omega arith)); tops_below = c.requires.tops_below; residues = λ k t. rw l.invariant.1 (add_multiples_below _ _ _ _ _ (omega arith) k t); row_ends = λ k h t g. rw c.part_at.ensures (c.requires.rows_end l.k (omega arith) other k h t g) }

pub loop-k-preserved : goal.loop-k-preserved
unfolding row
loop-k-preserved c =
    let shape = c.args.shape.now in
    let l = c.loop-k in
    elim c.if-k-i.branch [
      | then-k-i w ↦
          let top = c.requires.tops_below l.k (omega arith) in
          let other = w.if-k-i.true in
          let next = vector_at shape.width l.k l.moved _ top
          ∙ rw l.invariant.1 (still _ _ _ _ _ shape.n l.k (omega arith) other (c.requires.residues _ _) (λ m h ne nk. c.requires.columns_clear m l.k h (omega arith) ne other nk)) in
          rw w.moved-is (w.add_row_multiple.ensures.0 ∙ l.invariant.0, add_turn _ _ _ _ _ l.k _ _ other next (w.add_row_multiple.ensures.1 ∙ rw (w.part_at.ensures, l.invariant.1)))
      | else-k-i w ↦ rw w.moved-is (l.invariant.0, l.invariant.1 ∙ skip_turn _ _ _ _ _ l.k w.if-k-i.false)
    ]

pub returns : goal.returns
returns c =
    let l = c.loop-k in
    let e : l.k ≡ c.args.shape.now.n = omega arith in
    (l.invariant.0, l.invariant.1 ∙ rw e)
