-- The relations of two sets of series agree: every P is a relation to order s of the one exactly when of the other.
use Rattle.std.specs.Prelude.{◌↔◌, ℕ}
use Rattle.relation.specs.Vector.{Vect}
use Rattle.relation.specs.Relation.{Relation}

abbrev pub SameRelations : ℕ → ℕ → Vect → Vect → ℕ → Type 0
SameRelations p n F G s = (P : Vect) → Relation p n F s P ↔ Relation p n G s P
