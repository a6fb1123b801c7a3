-- The first b blocks stand in the buffer.
use Rattle.std.proofs.Common.{refl}
use Rattle.block.proofs.File.{blocks_written}
use Rattle.block.specs.File.{blocks_of}
use Rattle.block.proofs.write_blocks.Goals as goal

pub loop-b-init : goal.loop-b-init
unfolding blocks_of
loop-b-init c = refl

pub loop-b-preserved : goal.loop-b-preserved
loop-b-preserved c =
    let loop = c.loop-b in
    blocks_written c.args.first loop.b c.args.words.now loop.out _ _ loop.invariant c.write_block.ensures
