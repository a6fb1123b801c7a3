-- Coprime: every common divisor is 1.
use Rattle.std.specs.Prelude.{◌≡◌, ℕ}
use Rattle.field.specs.Prime.{Divides}

abbrev pub Coprime : ℕ → ℕ → Type 0
Coprime a b = (d : ℕ) → Divides d a → Divides d b → d ≡ 1
