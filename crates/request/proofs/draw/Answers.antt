-- `draw` meets its contract: the words so far are drawn, and the others follow from x.
use mathlib.Core.Path.{◌≡◌, sym, ◌∙◌}
use mathlib.Core.List.{append-nil}
use Prim.Native.Nat.{◌-◌}
use native.Mathlib.Omega.{arith}
use lib.ListN.{length}
use lib.Seq.{take_all}
use Rattle.request.specs.Drawn.{drawn}
use Rattle.request.proofs.Drawing.{drawn_turn}
use Rattle.request.proofs.draw.Goals as goal

pub loop-word-preserved : goal.loop-word-preserved
loop-word-preserved c =
    let l = c.loop-word in
    let next = c.next_state-x.ensures in
    record { state = next.1; left = l.invariant.left ∙ rw (next.0, c.from.ensures) (drawn_turn _ _ l.x l.out l.word-index (omega arith) (omega arith)) }

pub returns : goal.returns
unfolding drawn
returns c =
    let l = c.loop-word in
    let e : length c.args.out.now - l.word-index ≡ 0 = omega arith in
    sym (l.invariant.left ∙ rw (e, append-nil, take_all l.word-index l.out (omega arith)))
