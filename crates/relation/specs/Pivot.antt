-- Pivot degree of row i: deg of its entry i.
use Rattle.std.specs.Prelude.{ℕ}
use Rattle.relation.specs.Vector.{Vect}
use Rattle.relation.specs.Degree.{Degree}

abbrev pub Pivot : (ℕ → Vect) → ℕ → ℕ → Type 0
Pivot Q i e = Degree (Q i i) e
