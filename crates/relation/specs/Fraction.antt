-- Fractions r / t of a series g to order N: deg r below k, deg t at most N - k, t(0) not zero, and r = t * g to order N.
use Rattle.std.specs.Prelude.{◌≡◌, ◌≢◌, ℕ, ◌+◌, ◌-◌, ◌%◌, ◌<◌}
use Rattle.relation.specs.Product.{conv}
use Rattle.relation.specs.Degree.{DegreeBelow}
use Rattle.relation.specs.Polynomial.{Polynomial, NoCommonFactor}

pub record Fraction (p k N : ℕ) (g r t : ℕ → ℕ) : Type 0 where
  pub numerator : Polynomial p r
  pub denominator : Polynomial p t
  pub numerator_degree : DegreeBelow r k
  pub denominator_degree : DegreeBelow t (N - k + 1)
  pub constant : t 0 ≢ 0
  pub agrees : (x : ℕ) → x < N → r x ≡ conv t g x % p

-- some fraction exists
abbrev pub HasFraction : ℕ → ℕ → ℕ → (ℕ → ℕ) → Type 0
HasFraction p k N g = (r : ℕ → ℕ) × (t : ℕ → ℕ) × Fraction p k N g r t

-- a fraction in lowest terms, scaled so that t(0) = 1
pub record LowestFraction (p k N : ℕ) (g r t : ℕ → ℕ) : Type 0 where
  pub fraction : Fraction p k N g r t
  pub constant_one : t 0 ≡ 1
  pub coprime : NoCommonFactor p r t
