-- A block: 128 words in 512 bytes. Word 0 is its number, words 1 to 125 are the payload, words 126 and 127 the checks A and B.
use Rattle.std.specs.Prelude.{ℕ, zero, suc, List, [], ◌∷◌, ◌++◌, slice_index}
use Rattle.block.specs.Bytes.{bytes_of}
use Rattle.block.specs.Checks.{checks_of}

-- the list w 0, .., w (n - 1)
unfoldable pub up_to : ℕ → (ℕ → ℕ) → List ℕ
up_to zero w = []
up_to (suc n) w = w 0 ∷ up_to n (λ i. w (suc i))

-- words 0 to 125: the number, and the first 125 words of a list, zero past its end
unfoldable pub body : ℕ → List ℕ → List ℕ
body number payload = number ∷ up_to 125 (λ i. slice_index payload i)

-- words with their checks after them
unfoldable pub with_checks : List ℕ → List ℕ
with_checks ws = ws ++ ((checks_of (λ i. slice_index ws i)).a ∷ (checks_of (λ i. slice_index ws i)).b ∷ [])

unfoldable pub block_of : ℕ → List ℕ → List ℕ
block_of number payload = bytes_of (with_checks (body number payload))
