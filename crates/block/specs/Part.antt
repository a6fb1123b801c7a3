-- The parts of a lent file of blocks: how many blocks it has, block b, word k of the payloads joined, and a run of these words.
use Rattle.std.specs.Prelude.{ℕ, suc, ◌+◌, ◌*◌, ◌/◌, ◌%◌, List, length, take, drop}
use Rattle.block.specs.Word.{word_at}
use Rattle.block.specs.Block.{up_to}

abbrev pub blocks_in : List ℕ → ℕ
blocks_in file = length file / 512

unfoldable pub block_at : List ℕ → ℕ → List ℕ
block_at file b = take 512 (drop (512 * b) file)

-- 125 to a block, from its word 1 on
unfoldable pub payload_at : List ℕ → ℕ → ℕ
payload_at file k = word_at (block_at file (k / 125)) (suc (k % 125))

-- count words, from word `from` on
unfoldable pub payload_part : List ℕ → ℕ → ℕ → List ℕ
payload_part file from count = up_to count (λ i. payload_at file (from + i))
