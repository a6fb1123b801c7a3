-- deg, the plain degree of one polynomial.
use Rattle.std.specs.Prelude.{◌≡◌, ◌≢◌, ℕ, ◌≤◌, ◌<◌}

-- f is not 0, and its degree is e
pub record Degree (f : ℕ → ℕ) (e : ℕ) : Type 0 where
  pub leading : f e ≢ 0
  pub above : (t : ℕ) → e < t → f t ≡ 0

-- f is 0, or its degree is below e
abbrev pub DegreeBelow : (ℕ → ℕ) → ℕ → Type 0
DegreeBelow f e = (t : ℕ) → e ≤ t → f t ≡ 0
