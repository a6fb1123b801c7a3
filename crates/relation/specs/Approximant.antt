-- The least row of a basis, and the approximant of type d: the least row at order σ.
use Rattle.std.specs.Prelude.{◌≡◌, ℕ, ◌<◌, ℤ, pos, ◌≤ℤ◌}
use Rattle.relation.specs.Vector.{Vect}
use Rattle.relation.specs.ShiftedDegree.{ShiftedDegree}
use Rattle.relation.specs.MinimalBasis.{MinimalBasis}
use Rattle.relation.specs.Reduced.{Reduced}
use Rattle.relation.specs.Sigma.{sigma_of}

-- row i has the least shifted degree of the n rows, and the lowest number on a tie
pub record LeastRow (n : ℕ) (d : ℕ → ℤ) (Q : ℕ → Vect) (i : ℕ) : Type 0 where
  pub row : i < n
  pub δ : ℤ
  pub degree : ShiftedDegree n d (Q i) δ
  pub least : (l : ℕ) (ε : ℤ) → l < n → ShiftedDegree n d (Q l) ε → δ ≤ℤ ε
  pub lowest : (l : ℕ) → l < n → l < i → ¬ ShiftedDegree n d (Q l) δ

-- row i of Q is the approximant of type d: Q is the reduced minimal basis at the order σ of the type, and row i is its least
pub record Approximant (p n : ℕ) (F : Vect) (d : ℕ → ℤ) (σ : ℕ) (Q : ℕ → Vect) (i : ℕ) : Type 0 where
  pub order : pos σ ≡ sigma_of n d
  pub basis : MinimalBasis p n F σ d Q
  pub reduced : Reduced n Q
  pub least : LeastRow n d Q i
