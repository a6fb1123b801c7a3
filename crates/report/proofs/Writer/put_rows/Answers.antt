-- `put_rows` meets its contract: a row in each turn.
use Prim.Native.Nat.{◌*◌, ◌+◌, ◌≤◌}
use native.Mathlib.Omega.{arith}
use lib.ListN.{length}
use Rattle.std.proofs.lemmas.List.{length_push}
use Rattle.words.proofs.Part.{part_fits}
use Rattle.report.specs.Text.{row_lines}
use Rattle.report.proofs.Appended.{none_yet, turn, turn_room}
use Rattle.report.proofs.Rows.{Row, first_row, this_row, next_rows, last_row}
use Rattle.report.proofs.Writer.put_rows.Goals as goal
use Rattle.report.proofs.Writer.put_rows.Goals.{In-Some}

row_of : (c : In-Some) → let a = c.args in Row a.w a.basis.now a.d.now (length c.loop-i.yielded) c.in-Some.i c.in-Some.row.now c.in-Some.entry.now
row_of c = this_row _ _ _ _ c.loop-i.i-iterator c.next.new.self c.loop-i.invariant.0 c.in-Some.i c.in-Some.row c.in-Some.entry c.in-Some.ensures.steps c.requires.2

pub loop-i-init : goal.loop-i-init
loop-i-init c =
    let e = c.enumerate-i-items.ensures in
    let z = c.zip.ensures in
    let g = c.chunks_exact-rows.ensures in
    (rw c.into_iter-i-iterator.ensures.into_iter_gives (first_row _ _ _ c.chunks_exact-rows.result c.zip.result c.enumerate-i-items.result e.source e.count z.first z.second.0 g.rest g.size), none_yet _ _)

pub put_row-requires : goal.put_row-requires
unfolding row_lines
put_row-requires c =
    let r = row_of (goal.at.put_row-requires c).In-Some in
    let fits : c.in-Some.i * c.args.w + c.args.w ≤ length c.in-Some.row.now = omega (arith, r.long, part_fits (length c.args.d.now) c.args.w c.in-Some.i (omega (arith, r.index, r.below))) in
    (omega (arith, r.index, r.below), omega arith, omega arith, fits, rw (r.entries, r.is, r.type, r.index) (turn_room _ _ c.loop-i.invariant.1 _ r.below c.requires.5))

pub loop-i-preserved : goal.loop-i-preserved
loop-i-preserved c =
    let l = c.loop-i in
    let r = row_of (goal.at.loop-i-preserved c).In-Some in
    rw (length_push l.yielded (c.in-Some.i, (c.in-Some.row, c.in-Some.entry))) (
      next_rows _ _ _ _ l.i-iterator c.next.new.self l.invariant.0 c.in-Some.i c.in-Some.row c.in-Some.entry c.in-Some.ensures.steps,
      turn _ _ l.invariant.1 (rw (r.entries, r.is, r.type, r.index) at c.put_row.ensures),
    )

pub returns : goal.returns
unfolding row_lines
returns c =
    let e = last_row _ _ _ _ c.loop-i.i-iterator c.next.new.self c.loop-i.invariant.0 c.requires.1 c.requires.2 c.requires.4 c.in-None.ensures.steps in
    rw e at c.loop-i.invariant.1
