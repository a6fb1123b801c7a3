-- Products of polynomials and series, each a function from the exponent to the coefficient.
use Rattle.std.specs.Prelude.{ℕ, suc, ◌*◌, ◌-◌}
use Rattle.relation.specs.Sum.{sum_to}

-- the coefficient of X^k in a * b
unfoldable pub conv : (ℕ → ℕ) → (ℕ → ℕ) → ℕ → ℕ
conv a b k = sum_to (suc k) (λ t. a t * b (k - t))

-- the coefficient of X^k in the sum of the n products P i * F i
unfoldable pub dot : ℕ → (ℕ → ℕ → ℕ) → (ℕ → ℕ → ℕ) → ℕ → ℕ
dot n P F k = sum_to n (λ i. conv (P i) (F i) k)
