-- Words of 32 bits as bytes: four to a word, the lowest first, one word after the other.
use Rattle.std.specs.Prelude.{ℕ, ◌/◌, ◌%◌, List, [], ◌∷◌}
use Rattle.words.specs.Within.{Within}

-- the words of a list as bytes
unfoldable pub bytes_of : List ℕ → List ℕ
bytes_of [] = []
bytes_of (w ∷ ws) = w % 256 ∷ w / 256 % 256 ∷ w / 65536 % 256 ∷ w / 16777216 % 256 ∷ bytes_of ws

-- each number of a list is a byte; a word of 32 bits
abbrev pub Bytes : List ℕ → Type 0
Bytes = Within 256

abbrev pub Words : List ℕ → Type 0
Words = Within 4294967296
