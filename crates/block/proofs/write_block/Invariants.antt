-- The first i + 1 words stand in the block.
use Rattle.std.proofs.Common.{◌≡◌, ◌+◌, ◌*◌, take}
use Rattle.block.specs.Bytes.{bytes_of}
use Rattle.block.specs.Block.{up_to}
use Rattle.block.proofs.Block.{words}
use Rattle.block.proofs.write_block.Given as goal

abbrev pub invariant-loop-i : goal.invariant-loop-i
invariant-loop-i l = take (4 * (l.i + 1)) l.block ≡ bytes_of (up_to (l.i + 1) (words l.number l.words))
