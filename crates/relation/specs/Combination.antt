-- Polynomial combinations of n rows.
use Rattle.std.specs.Prelude.{◌≡◌, ℕ, ◌%◌}
use Rattle.relation.specs.Product.{dot}
use Rattle.relation.specs.Vector.{Vect, IsVec}

-- entry i of the sum of the a_l * Q_l, modulo p
unfoldable pub combination : ℕ → ℕ → Vect → (ℕ → Vect) → Vect
combination p n a Q i k = dot n a (λ l. Q l i) k % p

-- P is the sum of the a_l * Q_l, for n polynomials a_l modulo p
pub record Combination (p n : ℕ) (Q : ℕ → Vect) (P : Vect) : Type 0 where
  pub by : Vect
  pub vector : IsVec p n by
  pub sum : (i k : ℕ) → P i k ≡ combination p n by Q i k
