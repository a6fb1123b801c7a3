-- The first i + 1 words stand in the block. The checks are then made of the words that stand there.
use Rattle.std.proofs.Common.{◌≡◌, get_or, rules, arith}
use Rattle.block.proofs.Block.{begun, filled, sealed_block}
use Rattle.block.proofs.write_block.Goals as goal

pub loop-i-init : goal.loop-i-init
loop-i-init c = let e = c.store_word.ensures in rw e (begun c.args.number c.args.words.now c.args.block.now c.requires)

pub loop-i-preserved : goal.loop-i-preserved
loop-i-preserved c =
    let e = c.store_word-in-loop-i.ensures in
    let loop = c.loop-i in
    let word : c.unwrap_or.result ≡ get_or c.args.words.now loop.i 0 = search rules in
    rw e (filled c.args.number c.args.words.now loop.block loop.i _ (omega arith) (omega arith) word loop.invariant)

pub returns : goal.returns
returns c =
    let loop = c.loop-i in
    let e : loop.i ≡ 125 = omega arith in
    let whole =
    sealed_block c.args.number c.args.words.now c.ranges.number.fits (λ j. (c.type_inv.words j).fits)
    loop.block (omega arith) (rw e at loop.invariant) in
    cc whole
