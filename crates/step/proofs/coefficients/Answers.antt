-- `coefficients` meets its contract: after l turns the first l coefficients are there, and 0 past them.
use mathlib.Core.Path.{ap, ◌∙◌}
use Prim.Native.Nat.{◌*◌}
use native.Mathlib.Omega.{arith}
use lib.ListN.{length}
use Rattle.words.specs.Polynomial.{poly}
use Rattle.row.specs.View.{row}
use Rattle.words.proofs.Part.{part_fits, part_length}
use Rattle.words.proofs.Written.{written_turn}
use Rattle.step.proofs.Next.{replicate_all}
use Rattle.step.proofs.coefficients.Goals as goal

pub row_product-requires : goal.row_product-requires
unfolding row
row_product-requires c =
    let shape = c.args.shape.now in
    let l = c.loop-l.l in
    let size = shape.n * shape.width in
    let long = part_length size l c.args.basis.now (omega (arith, part_fits shape.n size l (omega arith))) in
    record { sizes = (omega arith, omega arith, ap length c.part_at.ensures ∙ long, c.requires.sizes.3); row_ends = λ k h t g. rw c.part_at.ensures (c.requires.rows_end l (omega arith) k h t g) }

pub loop-l-preserved : goal.loop-l-preserved
unfolding row poly
loop-l-preserved c =
    let l = c.loop-l in
    written_turn _ _ l.c l.l _ (omega (arith, l.invariant.same)) (c.row_product.ensures ∙ rw c.part_at.ensures) l.invariant

pub returns : goal.returns
returns c =
    let l = c.loop-l in
    (λ k h. l.invariant.done k (omega arith), λ k h. l.invariant.left k (omega arith) ∙ replicate_all 8 k 0)
