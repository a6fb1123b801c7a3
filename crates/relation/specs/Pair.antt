-- The two entries of the approximant of (-1, g), of type (k - 1, N - k) and order N: what the pair call reads its fraction from.
use Rattle.std.specs.Prelude.{◌≡◌, ℕ, zero, suc, ◌-◌, ℤ, pos, ◌-ℤ◌}
use Rattle.relation.specs.Vector.{Vect}
use Rattle.relation.specs.Approximant.{Approximant}

-- the series -1 and g; -1 is p - 1
unfoldable pub pair_series : ℕ → (ℕ → ℕ) → Vect
pair_series p g zero zero = p - 1
pair_series p g zero (suc k) = 0
pair_series p g (suc zero) k = g k
pair_series p g (suc (suc i)) k = 0

-- the type (k - 1, N - k)
unfoldable pub pair_type : ℕ → ℕ → ℕ → ℤ
pair_type k N zero = pos k -ℤ pos 1
pair_type k N (suc i) = pos N -ℤ pos k

pub record Pair (p k N : ℕ) (g r t : ℕ → ℕ) : Type 0 where
  pub rows : ℕ → Vect
  pub row : ℕ
  pub approximant : Approximant p 2 (pair_series p g) (pair_type k N) N rows row
  pub first : (x : ℕ) → r x ≡ rows row 0 x
  pub second : (x : ℕ) → t x ≡ rows row 1 x
