-- Prime: a number above 1 whose only divisors are 1 and itself.
use Rattle.std.specs.Prelude.{◌≡◌, ℕ, ◌*◌, ◌<◌, ◌⊎◌}

-- d divides n
abbrev pub Divides : ℕ → ℕ → Type 0
Divides d n = (q : ℕ) × (d * q ≡ n)

pub record Prime (p : ℕ) : Type 0 where
  pub above_one : 1 < p
  pub only : (d : ℕ) → Divides d p → (d ≡ 1) ⊎ (d ≡ p)
