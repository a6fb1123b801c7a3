-- Polynomials modulo p, what divides them, and multiples of two of them.
use Rattle.std.specs.Prelude.{◌≡◌, ℕ, ◌%◌, ◌<◌}
use Rattle.relation.specs.Product.{conv}
use Rattle.relation.specs.Degree.{DegreeBelow}

-- coefficients are below p, and it ends
pub record Polynomial (p : ℕ) (f : ℕ → ℕ) : Type 0 where
  pub small : (x : ℕ) → f x < p
  pub bound : ℕ
  pub high : DegreeBelow f bound

-- c divides f modulo p: f = c * quotient
pub record DividesModulo (p : ℕ) (c f : ℕ → ℕ) : Type 0 where
  pub quotient : ℕ → ℕ
  pub polynomial : Polynomial p quotient
  pub product : (x : ℕ) → f x ≡ conv c quotient x % p

-- every polynomial that divides both r and t modulo p is a constant
abbrev pub NoCommonFactor : ℕ → (ℕ → ℕ) → (ℕ → ℕ) → Type 0
NoCommonFactor p r t = (c : ℕ → ℕ) → Polynomial p c → DividesModulo p c r → DividesModulo p c t → DegreeBelow c 1

-- r and t are a and b multiplied by one polynomial
pub record PolynomialMultiple (p : ℕ) (a b r t : ℕ → ℕ) : Type 0 where
  pub by : ℕ → ℕ
  pub polynomial : Polynomial p by
  pub first : (x : ℕ) → r x ≡ conv by a x % p
  pub second : (x : ℕ) → t x ≡ conv by b x % p
