-- Each: the texts f 0, f 1, .. f (k - 1), one after the other.
use Rattle.std.specs.Prelude.{List, [], ◌++◌, ℕ, zero, suc}

unfoldable pub each : (ℕ → List ℕ) → ℕ → List ℕ
each f zero = []
each f (suc k) = each f k ++ f k
