-- Reduced: entry i of row i has leading coefficient 1, and in each column k every other row's entry
-- is zero or has degree below the pivot degree of row k.
use Rattle.std.specs.Prelude.{◌≡◌, ◌≢◌, ℕ, ◌<◌}
use Rattle.relation.specs.Vector.{Vect}
use Rattle.relation.specs.Degree.{DegreeBelow}
use Rattle.relation.specs.Pivot.{Pivot}

pub record Reduced (n : ℕ) (Q : ℕ → Vect) : Type 0 where
  pub monic : (i e : ℕ) → i < n → Pivot Q i e → Q i i e ≡ 1
  pub below : (l k e : ℕ) → l < n → k < n → l ≢ k → Pivot Q k e → DegreeBelow (Q l k) e
