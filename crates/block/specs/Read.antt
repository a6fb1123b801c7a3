-- What the bytes of a lent block say: its number, whether its checks are right, and its payload.
use Rattle.std.specs.Prelude.{◌≡◌, ℕ, suc, List}
use Rattle.block.specs.Word.{word_at}
use Rattle.block.specs.Checks.{checks_of}
use Rattle.block.specs.Block.{up_to}

abbrev pub number_of : List ℕ → ℕ
number_of block = word_at block 0

pub record Sound (block : List ℕ) : Type 0 where
  pub a_right : word_at block 126 ≡ (checks_of (word_at block)).a
  pub b_right : word_at block 127 ≡ (checks_of (word_at block)).b

unfoldable pub payload_of : List ℕ → List ℕ
payload_of block = up_to 125 (λ i. word_at block (suc i))
