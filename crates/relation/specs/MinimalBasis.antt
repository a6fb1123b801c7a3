-- Minimal basis of V_s: n rows; row i is in V_s, is nonzero, has type i,
-- and has the least shifted degree of all nonzero members of V_s of type i.
use Rattle.std.specs.Prelude.{ℕ, ◌<◌, ℤ, ◌≤ℤ◌}
use Rattle.relation.specs.Vector.{Vect, Nonzero}
use Rattle.relation.specs.Relation.{Relation}
use Rattle.relation.specs.ShiftedDegree.{ShiftedDegree}
use Rattle.relation.specs.TypeOf.{TypeOf}

pub record MinimalBasis (p n : ℕ) (F : Vect) (s : ℕ) (d : ℕ → ℤ) (Q : ℕ → Vect) : Type 0 where
  pub member : (i : ℕ) → i < n → Relation p n F s (Q i)
  pub nonzero : (i : ℕ) → i < n → Nonzero n (Q i)
  pub types : (i : ℕ) → i < n → TypeOf n d (Q i) i
  pub least : (i : ℕ) → i < n → (P : Vect) → Relation p n F s P → Nonzero n P → TypeOf n d P i
      → (δ ε : ℤ) → ShiftedDegree n d (Q i) δ → ShiftedDegree n d P ε → δ ≤ℤ ε
