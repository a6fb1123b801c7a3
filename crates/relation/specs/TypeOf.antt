-- The type of a vector: the largest index that attains its shifted degree.
use Rattle.std.specs.Prelude.{ℕ, ◌<◌, ℤ}
use Rattle.relation.specs.Vector.{Vect}
use Rattle.relation.specs.ShiftedDegree.{Attains, ShiftedDegree}

pub record TypeOf (n : ℕ) (d : ℕ → ℤ) (P : Vect) (i : ℕ) : Type 0 where
  pub δ : ℤ
  pub degree : ShiftedDegree n d P δ
  pub index : i < n
  pub attains : Attains d P δ i
  pub last : (k : ℕ) → k < n → i < k → ¬ Attains d P δ k
