-- deg_d, the shifted degree of a vector for the type d: the largest of deg(P_i) - d_i over its nonzero entries.
-- It can be negative. It is no plain degree: that is deg, of one polynomial.
use Rattle.std.specs.Prelude.{◌≡◌, ℕ, ◌<◌, ℤ, pos, ◌-ℤ◌, ◌≤ℤ◌}
use Rattle.relation.specs.Vector.{Vect}
use Rattle.relation.specs.Degree.{Degree}

-- the degree e of entry i, less d_i
abbrev pub shift : (ℕ → ℤ) → ℕ → ℕ → ℤ
shift d i e = pos e -ℤ d i

-- entry i of P is not 0, and its degree less d_i is δ
pub record Attains (d : ℕ → ℤ) (P : Vect) (δ : ℤ) (i : ℕ) : Type 0 where
  pub deg : ℕ
  pub degree : Degree (P i) deg
  pub shifted : shift d i deg ≡ δ

pub record ShiftedDegree (n : ℕ) (d : ℕ → ℤ) (P : Vect) (δ : ℤ) : Type 0 where
  pub attained : (i : ℕ) × (i < n) × Attains d P δ i
  pub largest : (i e : ℕ) → i < n → Degree (P i) e → shift d i e ≤ℤ δ
