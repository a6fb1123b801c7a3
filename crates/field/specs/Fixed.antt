-- Fixed p m: a factor by which words are multiplied without a division is a residue with its quotient by p, to 32 bits more.
use Rattle.std.specs.Prelude.{◌≡◌, ℕ, ◌*◌, ◌/◌, ◌^◌, ◌<◌}
use Rattle.field.specs.declared.FixedFactor.{FixedFactor}

pub record Fixed (p : ℕ) (m : FixedFactor) : Type 0 where
  pub below : m.factor < p
  pub estimate : m.quotient ≡ m.factor * 2 ^ 32 / p
