-- How many of the orders 0 to s - 1 make V smaller.
use Rattle.std.specs.Prelude.{◌↔◌, ℕ, zero, suc}
use Rattle.relation.specs.Vector.{Vect}
use Rattle.relation.specs.Relation.{Relation}

-- V_(j+1) has the members of V_j
abbrev pub Stays : ℕ → ℕ → Vect → ℕ → Type 0
Stays p n F j = (P : Vect) → Relation p n F j P ↔ Relation p n F (suc j) P

-- V_(j+1) differs from V_j
abbrev pub Shrinks : ℕ → ℕ → Vect → ℕ → Type 0
Shrinks p n F j = ¬ Stays p n F j

-- of the orders 0 to s - 1, c make V smaller
pub data ShrinkCount (p n : ℕ) (F : Vect) : ℕ → ℕ → Type 0 where
  none : ShrinkCount p n F zero zero
  smaller : {s c : ℕ} → Shrinks p n F s → ShrinkCount p n F s c → ShrinkCount p n F (suc s) (suc c)
  same : {s c : ℕ} → Stays p n F s → ShrinkCount p n F s c → ShrinkCount p n F (suc s) c
