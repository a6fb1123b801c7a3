-- sum_to k f: the sum f 0 + f 1 + .. + f (k - 1).
use Rattle.std.specs.Prelude.{ℕ, zero, suc, ◌+◌}

unfoldable pub sum_to : ℕ → (ℕ → ℕ) → ℕ
sum_to zero f = 0
sum_to (suc k) f = sum_to k f + f k
