-- Modulus: the admitted moduli, document 01, "Sizes": prime, 2 to 2147483647.
use Rattle.std.specs.Prelude.{ℕ, ◌≤◌}
use Rattle.field.specs.Prime.{Prime}

abbrev pub largest : ℕ
largest = 2147483647

pub record Modulus (p : ℕ) : Type 0 where
  pub prime : Prime p
  pub at_most : p ≤ largest
