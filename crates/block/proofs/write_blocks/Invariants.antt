-- The first b blocks stand in the buffer.
use Rattle.std.proofs.Common.{◌≡◌, ◌*◌, take}
use Rattle.block.specs.File.{blocks_of}
use Rattle.block.proofs.write_blocks.Given as goal

abbrev pub invariant-loop-b : goal.invariant-loop-b
invariant-loop-b l = take (512 * l.b) l.out ≡ blocks_of l.first l.b l.words
