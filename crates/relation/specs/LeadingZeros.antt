-- m: the number of leading zero coefficients common to all n series, at most s.
use Rattle.std.specs.Prelude.{◌≡◌, ◌≢◌, ℕ, ◌%◌, ◌≤◌, ◌<◌}
use Rattle.relation.specs.Vector.{Vect}

pub record LeadingZeros (p n : ℕ) (F : Vect) (s m : ℕ) : Type 0 where
  pub at_most : m ≤ s
  pub zeros : (k : ℕ) → k < m → (i : ℕ) → i < n → F i k % p ≡ 0
  pub next : m < s → (i : ℕ) × (i < n) × (F i m % p ≢ 0)
