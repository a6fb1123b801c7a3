-- The answer for the blocks that have not come is the answer for all.
use Rattle.std.proofs.Common.{Ok, Err, sym, ◌∙◌}
use Rattle.field.specs.declared.Refusal.{Refusal}
use Rattle.field.proofs.Truth.{fails}
use Rattle.block.proofs.Fault.{scan_next, number_wrong_at, checks_wrong_at, passed_at, none_left}
use Rattle.block.proofs.test_blocks.Goals as goal

pub returns-then-number-first : goal.returns-then-number-first
returns-then-number-first c =
    let l = c.loop-b in
    l.invariant.1 (Err Refusal.BlockNumber)
    (number_wrong_at c.args.first c.args.count l.b-iterator c.next.new.self l.invariant.0 c.in-Some.b c.in-Some.bytes c.in-Some.ensures.steps
    (λ e. c.if-number-first.true (c.number.ensures ∙ e)))

pub returns-then-not-is_sound : goal.returns-then-not-is_sound
returns-then-not-is_sound c =
    let l = c.loop-b in
    l.invariant.1 (Err Refusal.Check)
    (checks_wrong_at c.args.first c.args.count l.b-iterator c.next.new.self l.invariant.0 c.in-Some.b c.in-Some.bytes c.in-Some.ensures.steps
    (sym c.number.ensures ∙ c.if-number-first.false) (fails _ c.is_sound.ensures c.if-not-is_sound.true))

pub loop-b-preserved : goal.loop-b-preserved
loop-b-preserved c =
    let l = c.loop-b in (
      scan_next c.args.first c.args.count l.b-iterator c.next.new.self l.invariant.0 c.in-Some.b c.in-Some.bytes c.in-Some.ensures.steps,
      λ t r.
          l.invariant.1 t
          (passed_at c.args.first c.args.count l.b-iterator c.next.new.self l.invariant.0 c.in-Some.b c.in-Some.bytes c.in-Some.ensures.steps
          (sym c.number.ensures ∙ c.if-number-first.false) (c.is_sound.ensures.0 c.if-not-is_sound.false) t r),
    )

pub returns : goal.returns
returns c =
    c.loop-b.invariant.1 (Ok tt) (none_left c.args.first c.args.count c.loop-b.b-iterator c.next.new.self c.loop-b.invariant.0 c.in-None.ensures.steps)
