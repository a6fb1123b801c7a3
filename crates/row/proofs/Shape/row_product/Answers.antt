-- `Shape::row_product` meets its contract: after k turns the products of the first k entries are gathered, and all of them have room.
use mathlib.Core.Path.{◌≡◌, ◌∙◌}
use Prim.Native.Nat.{◌+◌, ◌*◌, ◌-◌, ◌<◌, ◌≤◌}
use native.Mathlib.Nat.{zero-add, zero-mul}
use native.Mathlib.Omega.{arith}
use lib.ListN.{length-take}
use Rattle.field.specs.Gathered.{Gathers}
use Rattle.field.proofs.Gathered.{gathers_none, gathers_most}
use Rattle.words.proofs.Sizes.{row_small}
use Rattle.row.specs.View.{vector}
use Rattle.row.proofs.Part.{front_degree}
use Rattle.words.proofs.Part.{part_fits, part_length}
use Rattle.row.proofs.Turn.{sum_turn}
use Rattle.relation.specs.Sum.{sum_to}
use Rattle.relation.specs.Product.{dot}
use Rattle.row.proofs.Shape.row_product.Goals as goal

pub loop-k-init : goal.loop-k-init
unfolding sum_to
loop-k-init c = rw zero-mul (gathers_none _)

pub plus_entry_product-sum-requires : goal.plus_entry_product-sum-requires
unfolding vector
plus_entry_product-sum-requires c =
    let args = c.args in
    let l = c.loop-k in
    let n = args.self.now.n in
    let w = args.self.now.width in
    let h : l.k < n = omega (arith, length-take n args.self.now.tops) in
    let entry = part_length w l.k args.row.now (omega (arith, part_fits n w l.k h)) in
    let series = part_length (w - 1) l.k args.series.now (omega (arith, part_fits n (w - 1) l.k h)) in
    let fits = part_fits n (args.at + 1) l.k h in
    let small = row_small n (args.at + 1) (omega arith) (omega arith) in (
      l.invariant.room (args.at + 1) (record { low = omega arith; high = omega arith }),
      rw (c.part_at.ensures, entry) (omega arith),
      rw (c.part_at-in-loop-k.ensures, series) (omega arith),
      λ t g. rw c.part_at.ensures (c.requires.row_ends l.k h t (rw (front_degree n l.k args.self.now.tops h) at g)),
    )

pub loop-k-preserved : goal.loop-k-preserved
unfolding vector
loop-k-preserved c =
    let l = c.loop-k in
    let at = c.args.at in
    let entry : Gathers (at + 1) l.sum _ c.plus_entry_product-sum.result = rw (c.part_at.ensures, c.part_at-in-loop-k.ensures) at c.plus_entry_product-sum.ensures in
    gathers_most (l.k * (at + 1) + (at + 1)) ((l.k + 1) * (at + 1)) (omega arith) (sum_turn _ (at + 1) l.k _ l.invariant entry)

pub sum_of-requires : goal.sum_of-requires
sum_of-requires c =
    let l = c.loop-k in
    let n = c.args.self.now.n in
    let at = c.args.at in
    let h : l.k ≤ n = omega (arith, length-take n c.args.self.now.tops) in
    let small = row_small l.k (at + 1) (omega arith) (omega arith) in
    l.invariant.room 1 (record { low = omega arith; high = omega arith })

pub returns : goal.returns
unfolding dot
returns c =
    let l = c.loop-k in
    let n = c.args.self.now.n in
    let e : l.k ≡ n = omega (arith, length-take n c.args.self.now.tops) in
    c.sum_of.ensures ∙ rw (l.invariant.sum, zero-add, e)
