-- `clear_rows` meets its contract: the first l rows but row i are cleared, and the others are as they were.
use mathlib.Core.Path.{◌≡◌, refl, ◌∙◌}
use Prim.Native.Nat.{◌+◌, ◌*◌, ◌-◌}
use native.Mathlib.Omega.{arith}
use lib.ListN.{take, drop}
use Rattle.row.specs.View.{row}
use Rattle.words.specs.Part.{part}
use Rattle.words.proofs.Part.{part_fits, lent_length, lent}
use Rattle.words.proofs.Written.{parts_turn, parts_skip}
use Rattle.step.specs.Factor.{factor}
use Rattle.step.proofs.clear_rows.Goals as goal
use Rattle.step.proofs.clear_rows.Goals.{then-l-by, else-l-by}

pub add_row_multiple-requires : goal.add_row_multiple-requires
unfolding row
add_row_multiple-requires c =
    let shape = c.args.shape.now in
    let l = c.loop-l in
    let size = shape.n * shape.width in
    let fits = part_fits shape.n size l.l (omega arith) in
    let same : take (l.l * size + size - l.l * size) (drop (l.l * size) l.basis) ≡ part size l.l c.args.basis.now =
    lent size l.l l.basis ∙ l.invariant.left l.l (omega arith) in
    record { sizes = (lent_length size l.l l.basis (omega arith), c.requires.sizes.2); tops_below = c.requires.tops_below; residues = λ k t. rw same (c.requires.residues l.l (omega arith) k t); row_ends = c.requires.pivot_ends }

pub loop-l-preserved : goal.loop-l-preserved
unfolding row factor
loop-l-preserved c =
    let shape = c.args.shape.now in
    let l = c.loop-l in
    let size = shape.n * shape.width in
    let fits = part_fits shape.n size l.l (omega arith) in
    elim c.if-l-by.branch [
      | then-l-by w ↦ rw w.basis-is (parts_turn size _ _ l.basis w.add_row_multiple.new.row l.l (omega arith)
          (w.add_row_multiple.ensures.0 ∙ lent_length size l.l l.basis (omega arith))
          (λ ne. w.add_row_multiple.ensures.1 ∙ rw (lent size l.l l.basis, l.invariant.left l.l (omega arith), w.plus_product-m.ensures), λ q. absurd (w.if-l-by.true q))
          l.invariant)
      | else-l-by w ↦ rw w.basis-is (parts_skip size _ _ l.basis l.l (λ ne. absurd (ne w.if-l-by.false), λ q. refl) l.invariant)
    ]

pub returns : goal.returns
unfolding row
returns c =
    let l = c.loop-l in
    (l.invariant.same, λ k h ne. (l.invariant.done k (omega arith)).0 ne, (l.invariant.done c.args.by.now.i (omega arith)).1 refl)
