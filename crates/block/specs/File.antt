-- A file of blocks: a list of words, 125 to a block, in just enough blocks numbered from 0; spare payload words are zero.
use Rattle.std.specs.Prelude.{ℕ, zero, suc, ◌+◌, ◌/◌, List, [], ◌++◌, length, drop}
use Rattle.block.specs.Block.{block_of}

-- count blocks, numbered from first
unfoldable pub blocks_of : ℕ → ℕ → List ℕ → List ℕ
blocks_of first zero ws = []
blocks_of first (suc count) ws = block_of first ws ++ blocks_of (suc first) count (drop 125 ws)

-- how many blocks n words take
unfoldable pub blocks_for : ℕ → ℕ
blocks_for n = (n + 124) / 125

unfoldable pub file_of : List ℕ → List ℕ
file_of ws = blocks_of 0 (blocks_for (length ws)) ws
