-- Just enough blocks for the words are those of their file.
use Rattle.std.proofs.Common.{length, arith, length-take-le}
use Rattle.block.proofs.File.{blocks_close, file_over}
use Rattle.block.proofs.write_file.Goals as goal

pub write_blocks-requires : goal.write_blocks-requires
write_blocks-requires c =
    let words = c.args.words.now in
    let close = blocks_close (length words) in
    let blocks = c.blocks_for-blocks.ensures in record { out_length = length-take-le _ _ (omega arith); numbers = omega arith; words_enough = omega arith }

pub overflow_cast-result : goal.overflow_cast-result
overflow_cast-result c =
    let words = c.args.words.now in
    let close = blocks_close (length words) in
    omega (arith, c.blocks_for-blocks.ensures)

pub returns : goal.returns
returns c =
    let blocks = c.blocks_for-blocks.ensures in
    (blocks, file_over _ _ _ _ blocks c.write_blocks.ensures)
