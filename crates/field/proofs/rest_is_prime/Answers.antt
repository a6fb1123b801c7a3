-- No number below d divides n, the invariant Tried of proofs/Trial, and past the square root that makes n prime; the measure is what is left up to n.
use Rattle.std.proofs.Common.{◌+◌, ◌*◌, ◌%◌, ◌≤◌, arith}
use Rattle.field.proofs.Truth.{shown, refuted}
use Rattle.field.proofs.Trial.{step, Tried, composite, tried_more, root_below, past_root}
use Rattle.field.proofs.rest_is_prime.Goals as goal
use Rattle.field.proofs.rest_is_prime.Goals.{Else-n-d-eq0, In-loop-d}

in_loop : (c : In-loop-d) → 7 * c.loop-d.d ≤ c.args.n
in_loop c = root_below c.args.n c.loop-d.d (omega arith) (omega arith)

after : (c : Else-n-d-eq0) →
    Tried c.args.n (c.loop-d.d + step c.loop-d.i) ((c.loop-d.i + 1) % 8)
after c =
    let pre = c.requires in
    tried_more _ _ _ c.loop-d.invariant (in_loop c.before) (pre.1, (pre.2, pre.3)) c.if-n-d-eq0.false

pub returns-then-n-d-eq0 : goal.returns-then-n-d-eq0
returns-then-n-d-eq0 c =
    let h = in_loop c.before in
    refuted (composite _ c.loop-d.d (omega arith) (omega arith) c.if-n-d-eq0.true)

pub loop-d-preserved : goal.loop-d-preserved
loop-d-preserved c = after c.before.before

pub returns : goal.returns
returns c = shown (past_root c.args.n c.loop-d.d (omega arith) c.requires.0 (omega arith) c.loop-d.invariant.none)
