-- Bezout a b x k: x times b is 1 more than k times a, for residues x modulo a and k modulo b.
use Rattle.std.specs.Prelude.{◌≡◌, ℕ, ◌+◌, ◌*◌, ◌<◌}

pub record Bezout (a b x k : ℕ) : Type 0 where
  pub x_below : x < a
  pub k_below : k < b
  pub product : b * x ≡ 1 + k * a
