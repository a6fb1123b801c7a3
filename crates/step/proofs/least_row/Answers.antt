-- `least_row` meets its contract: best is the least of the rows passed.
use mathlib.Core.Path.{sym, ◌∙◌}
use Prim.Native.Nat.{◌<◌}
use native.Mathlib.Omega.{arith}
use lib.ListN.{length, length-take}
use lib.Seq.{get_or-take}
use Rattle.step.proofs.Search.{best_skip, best_turn}
use Rattle.step.proofs.least_row.Goals as goal
use Rattle.step.proofs.least_row.Goals.{then-flag-ne0, else-flag-ne0}

pub loop-l-preserved : goal.loop-l-preserved
loop-l-preserved c =
    let l = c.loop-l in
    let n = length c.args.d.now in
    let inside : l.l < n = omega (arith, length-take n c.args.flags) in
    let same = get_or-take n c.args.flags l.l 0 inside in
    elim c.if-flag-ne0.branch [
      | then-flag-ne0 w ↦ rw w.best-is (best_turn _ _ _ _ l.l l.best _ inside (λ z. w.if-flag-ne0.true (same ∙ z)) w.nearer.ensures l.invariant)
      | else-flag-ne0 w ↦ rw w.best-is (best_skip _ _ _ _ l.l l.best (sym same ∙ w.if-flag-ne0.false) l.invariant)
    ]
