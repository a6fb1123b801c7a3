-- `Shape::add_entries` meets its contract: the first k entries have the multiple added, and the others are as they were.
use mathlib.Core.Path.{◌≡◌, sym, ◌∙◌}
use Prim.Native.Nat.{◌<◌}
use native.Mathlib.Omega.{arith}
use lib.ListN.{length-take}
use Rattle.row.specs.View.{vector}
use Rattle.row.proofs.Part.{lent_poly, row_ext, vector_out, front_degree}
use Rattle.words.proofs.Part.{part_fits, lent_length}
use Rattle.words.proofs.Written.{parts_turn}
use Rattle.relation.specs.Operations.{add_multiple}
use Rattle.relation.proofs.Vector.{zero_add_multiple}
use Rattle.row.proofs.Shape.add_entries.Goals as goal

pub add_multiple-requires : goal.add_multiple-requires
unfolding vector
add_multiple-requires c =
    let l = c.loop-k in
    let n = c.args.self.now.n in
    let w = c.args.self.now.width in
    let h : l.k < n = omega (arith, length-take n c.args.self.now.tops) in
    let fits = part_fits n w l.k h in
    let top = c.requires.tops_below l.k h in (
      c.requires.sizes.0,
      rw (lent_length w l.k l.row (omega arith), front_degree n l.k c.args.self.now.tops h) top,
      lent_length w l.k c.args.from.now (omega arith) ∙ sym (lent_length w l.k l.row (omega arith)),
      λ t. rw (lent_poly w l.k l.row t, l.invariant.left l.k (omega arith)) (c.requires.residues l.k t),
      λ t g. lent_poly w l.k c.args.from.now t ∙ c.requires.row_ends l.k h t (rw front_degree at g),
    )

pub loop-k-preserved : goal.loop-k-preserved
unfolding vector add_multiple
loop-k-preserved c =
    let added = c.add_multiple in
    let l = c.loop-k in
    let n = c.args.self.now.n in
    let w = c.args.self.now.width in
    let h : l.k < n = omega (arith, length-take n c.args.self.now.tops) in
    let fits = part_fits n w l.k h in
    parts_turn w _ _ l.row added.new.entry l.k (omega arith)
    (added.ensures.0 ∙ lent_length w l.k l.row (omega arith))
    (λ t. added.ensures.1 t ∙ rw (lent_poly w l.k l.row t, l.invariant.left l.k (omega arith), lent_poly w l.k c.args.from.now t))
    l.invariant

pub returns : goal.returns
unfolding add_multiple
returns c =
    let l = c.loop-k in
    let args = c.args in
    let n = args.self.now.n in
    let w = args.self.now.width in
    let full : l.k ≡ n = omega (arith, length-take n args.self.now.tops) in
    let row_out = vector_out n w args.row.now (omega arith) in
    let from_out = vector_out n w args.from.now (omega arith) in (
      l.invariant.same,
      row_ext n w l.row _ (omega arith) (λ k h. l.invariant.done k (omega arith))
          (λ k t h. zero_add_multiple args.f.modulus args.m.factor _ _ (row_out k t h) (from_out k t h)),
    )
