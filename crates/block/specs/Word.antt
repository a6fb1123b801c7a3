-- Word i of a list of bytes: bytes 4 i to 4 i + 3, the lowest first.
use Rattle.std.specs.Prelude.{ℕ, ◌+◌, ◌*◌, List, slice_index}

unfoldable pub word_at : List ℕ → ℕ → ℕ
word_at l i =
    slice_index l (4 * i) + 256 * slice_index l (4 * i + 1) + 65536 * slice_index l (4 * i + 2) + 16777216 * slice_index l (4 * i + 3)
