-- `put_entries` meets its contract: an entry in each turn.
use mathlib.Core.Path.{ap, ◌∙◌}
use Rattle.report.specs.Text.{entries_text}
use Rattle.std.specs.Slice.Iter.{chunks_exact_rest, chunks_exact_size}
use Rattle.report.proofs.Chunks.{cut_start, cut_part, cut_more, cut_below, cut_end}
use Rattle.std.proofs.lemmas.List.{length_push}
use Rattle.report.proofs.Appended.{none_yet, turn, turn_room}
use Rattle.report.proofs.Writer.put_entries.Goals as goal

pub loop-entry-init : goal.loop-entry-init
loop-entry-init c =
    let e = c.into_iter-entry-iterator.ensures.into_iter_gives in
    let g = c.chunks_exact-entry-items.ensures in
    (cut_start _ _ _ (ap chunks_exact_rest e ∙ g.rest) (ap chunks_exact_size e ∙ g.size), none_yet _ _)

pub put_entry-requires : goal.put_entry-requires
unfolding entries_text
put_entry-requires c =
    let l = c.loop-entry in
    let step = c.in-Some.ensures.steps in
    let e = cut_part _ _ _ l.entry-iterator c.next.new.self l.invariant.0 c.in-Some.entry step in
    rw e (turn_room _ _ l.invariant.1 _ (cut_below _ _ _ l.entry-iterator c.next.new.self l.invariant.0 c.in-Some.entry step c.requires.0) c.requires.1)

pub loop-entry-preserved : goal.loop-entry-preserved
loop-entry-preserved c =
    let l = c.loop-entry in
    let step = c.in-Some.ensures.steps in
    let e = cut_part _ _ _ l.entry-iterator c.next.new.self l.invariant.0 c.in-Some.entry step in
    rw (length_push l.yielded c.in-Some.entry) (cut_more _ _ _ l.entry-iterator c.next.new.self l.invariant.0 c.in-Some.entry step, turn _ _ l.invariant.1 (rw e at c.put_entry.ensures))

pub returns : goal.returns
unfolding entries_text
returns c =
    let e = cut_end _ _ _ c.loop-entry.entry-iterator c.next.new.self c.loop-entry.invariant.0 c.in-None.ensures.steps in
    rw e at c.loop-entry.invariant.1
