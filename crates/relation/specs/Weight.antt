-- Weights: position (i, k), entry i and exponent k, has the weight (k + b_i) * n + i. With b_i = B - d_i, comparing weights is
-- comparing first the shifted degree and then the index, so that one number orders the rows.
use Rattle.std.specs.Prelude.{◌≡◌, ◌≢◌, ℕ, suc, ◌+◌, ◌*◌, ◌-◌, ◌≤◌, ◌<◌, ℤ, pos, negsuc}
use Rattle.relation.specs.Vector.{Vect}

unfoldable pub weight : ℕ → (ℕ → ℕ) → ℕ → ℕ → ℕ
weight n b i k = (k + b i) * n + i

-- B - z, where z is at most B
unfoldable pub less : ℕ → ℤ → ℕ
less B (pos x) = B - x
less B (negsuc x) = B + suc x

-- every position of weight W or more is zero
abbrev pub BelowWeight : ℕ → (ℕ → ℕ) → ℕ → Vect → Type 0
BelowWeight n b W P = (i k : ℕ) → i < n → W ≤ weight n b i k → P i k ≡ 0

-- the leading position of P is (i, e)
pub record LeadsAt (n : ℕ) (b : ℕ → ℕ) (P : Vect) (i e : ℕ) : Type 0 where
  pub nonzero : P i e ≢ 0
  pub above : BelowWeight n b (suc (weight n b i e)) P
