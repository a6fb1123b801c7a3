-- Vectors of n polynomials modulo p, of any degree. Entries are counted from 0.
use Rattle.std.specs.Prelude.{◌≡◌, ◌≢◌, ℕ, ◌≤◌, ◌<◌}

-- entry i, coefficient of X^k
abbrev pub Vect : Type 0
Vect = ℕ → ℕ → ℕ

-- coefficients are below p, there are no entries from n on, and each entry ends
pub record IsVec (p n : ℕ) (P : Vect) : Type 0 where
  pub small : (i k : ℕ) → P i k < p
  pub out : (i k : ℕ) → n ≤ i → P i k ≡ 0
  pub bound : ℕ
  pub high : (i k : ℕ) → bound ≤ k → P i k ≡ 0

-- some entry has a coefficient that is not 0
abbrev pub Nonzero : ℕ → Vect → Type 0
Nonzero n P = (i : ℕ) × (k : ℕ) × (i < n) × (P i k ≢ 0)
