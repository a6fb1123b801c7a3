-- Inverse p a b: b is the residue modulo p whose product with a is 1.
use Rattle.std.specs.Prelude.{◌≡◌, ℕ, ◌*◌, ◌%◌, ◌<◌}

pub record Inverse (p a b : ℕ) : Type 0 where
  pub below : b < p
  pub product : (a * b) % p ≡ 1
