-- Drawn: the numbers that a seed gives (docs/REFERENCE.md).
use Rattle.std.specs.Prelude.{List, [], ◌∷◌, ℕ, zero, suc, ◌+◌, ◌*◌, ◌%◌}

-- the largest prime below 2^47: a product with the factor fits 63 bits
abbrev pub prime47 : ℕ
prime47 = 140737488355213

unfoldable pub start : ℕ → ℕ
start seed = (seed + 1) * 2330089441 % prime47

unfoldable pub next : ℕ → ℕ
next x = x * 48271 % prime47

-- k numbers below m, each from the state after one step more
unfoldable pub drawn : ℕ → ℕ → ℕ → List ℕ
drawn m zero x = []
drawn m (suc k) x = next x % m ∷ drawn m k (next x)
