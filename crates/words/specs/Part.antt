-- Part: words are cut into parts of equal length (document 01, "Buffers").
use Rattle.std.specs.Prelude.{List, ℕ, ◌*◌, take, drop}

-- part k of a list that is cut into parts of w words
unfoldable pub part : ℕ → ℕ → List ℕ → List ℕ
part w k l = take w (drop (k * w) l)
