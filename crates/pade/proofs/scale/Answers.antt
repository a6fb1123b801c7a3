-- `scale` meets its contract: below x the words are the multiples.
use Rattle.std.proofs.Common.{length, ◌∙◌, arith}
use native.Mathlib.Nat.{zero-add}
use lib.ListN.{length-take}
use lib.Seq.{get_or-take}
use Rattle.words.specs.Polynomial.{poly}
use Rattle.words.proofs.Written.{written_turn}
use Rattle.pade.proofs.scale.Goals as goal

pub loop-x-preserved : goal.loop-x-preserved
unfolding poly
loop-x-preserved c =
    let l = c.loop-x in
    let full = length-take (length c.args.into.now) c.args.from.now in
    written_turn _ _ l.into l.x _ (omega arith) (c.plus_product.ensures ∙ rw (zero-add, get_or-take (length c.args.into.now) c.args.from.now l.x 0 (omega arith))) l.invariant

pub returns : goal.returns
unfolding poly
returns c =
    let l = c.loop-x in
    let full = length-take (length c.args.into.now) c.args.from.now in
    record { same = l.invariant.same; at = λ y h. l.invariant.done y (omega arith) }
