-- `add_multiple` meets its contract: below t the multiple is added. Past the end there is nothing to add.
use mathlib.Core.Path.{sym, ◌∙◌}
use Prim.Native.Nat.{◌<◌}
use native.Mathlib.Omega.{arith}
use native.Mathlib.Nat.{add-zero, mul-zero, mod-eq_of_lt}
use native.Mathlib.Decide.{dec_lt}
use lib.ListN.{length-take}
use lib.Seq.{get_or-take}
use Rattle.words.specs.Polynomial.{poly}
use Rattle.words.proofs.Written.{written_turn}
use Rattle.row.proofs.add_multiple.Goals as goal

pub plus_multiple-requires : goal.plus_multiple-requires
unfolding poly
plus_multiple-requires c =
    let l = c.loop-t in
    let pre = c.requires in
    (rw (l.invariant.left l.t (omega arith)) (pre.3 l.t), pre.0)

pub loop-t-preserved : goal.loop-t-preserved
unfolding poly
loop-t-preserved c =
    let l = c.loop-t in
    let full = length-take c.group_end-end.result c.args.from.now in
    let before : l.t < c.group_end-end.result = omega arith in
    written_turn _ _ l.entry l.t _ (omega arith) (c.plus_multiple.ensures ∙ rw (l.invariant.left l.t (omega arith), get_or-take c.group_end-end.result c.args.from.now l.t 0 before)) l.invariant

pub returns : goal.returns
unfolding poly
returns c =
    let l = c.loop-t in
    let pre = c.requires in
    let full = length-take c.group_end-end.result c.args.from.now in (
      l.invariant.same,
      λ k. elim (dec_lt k l.t) [
        | yes h ↦ l.invariant.done k h
        | no h ↦ l.invariant.left k (omega arith) ∙ sym (rw (pre.4 k (omega arith), mul-zero, add-zero) (mod-eq_of_lt (pre.3 k)))
      ],
    )
