-- A word stored in a list of bytes: the four bytes of word i become those of w, the lowest first.
use Rattle.std.specs.Prelude.{ℕ, ◌+◌, ◌*◌, ◌/◌, ◌%◌, List, slice_set}

unfoldable pub stored : List ℕ → ℕ → ℕ → List ℕ
stored l i w =
    slice_set (slice_set (slice_set (slice_set l (4 * i) (w % 256)) (4 * i + 1) (w / 256 % 256)) (4 * i + 2) (w / 65536 % 256)) (4 * i + 3) (w / 16777216 % 256)
