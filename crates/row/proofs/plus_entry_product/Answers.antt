-- `plus_entry_product` meets its contract: after t turns the first t terms of the product's coefficient are gathered, and past the end there are none.
use Prim.Native.Nat.{◌+◌, ◌<◌, ◌≤◌}
use native.Mathlib.Omega.{arith}
use lib.ListN.{length-take}
use lib.Seq.{get_or-take}
use Rattle.field.proofs.Gathered.{gathers_none, gathers_most}
use Rattle.relation.specs.Sum.{sum_to}
use Rattle.words.specs.Polynomial.{poly}
use Rattle.row.proofs.Turn.{sum_turn, conv_end}
use Rattle.row.proofs.plus_entry_product.Goals as goal

pub loop-t-init : goal.loop-t-init
unfolding sum_to
loop-t-init c = gathers_none _

pub plus_product-sum-requires : goal.plus_product-sum-requires
plus_product-sum-requires c =
    let inside : c.loop-t.t ≤ c.args.at = omega (arith, length-take c.group_end-end.result c.args.entry.now) in
    c.loop-t.invariant.room 1 (record { low = omega arith; high = omega arith })

pub loop-t-preserved : goal.loop-t-preserved
unfolding poly
loop-t-preserved c =
    let l = c.loop-t in
    let before : l.t < c.group_end-end.result = omega (arith, length-take c.group_end-end.result c.args.entry.now) in
    sum_turn l.t 1 l.t _ l.invariant (rw (get_or-take c.group_end-end.result c.args.entry.now l.t 0 before) at c.plus_product-sum.ensures)

pub returns : goal.returns
returns c =
    let l = c.loop-t in
    let args = c.args in
    let full = length-take c.group_end-end.result args.entry.now in
    rw (conv_end (poly args.entry.now) (poly args.series.now) args.top.0 args.at l.t c.requires.3 (omega arith) (omega arith))
    (gathers_most l.t (args.at + 1) (omega arith) l.invariant)
