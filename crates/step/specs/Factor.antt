-- The multiples by which rows are cleared.
use Rattle.std.specs.Prelude.{◌≡◌, ◌≢◌, ℕ, ◌+◌, ◌*◌, ◌-◌, ◌%◌, ◌<◌}
use Rattle.std.proofs.Math.Decide.{ℕ_discrete}
use Rattle.relation.specs.Vector.{Vect}
use Rattle.relation.specs.Pick.{pick}
use Rattle.relation.specs.Operations.{times_x}
use Rattle.relation.specs.Moving.{cleared_row, moved_row}
use Rattle.row.specs.Shape.{RowEndsAt, Residues}

-- c times h, where h is minus the inverse of the pivot row's coefficient
unfoldable pub factor : ℕ → ℕ → (ℕ → ℕ) → ℕ → ℕ
factor p h c l = (0 + c l * h) % p

-- what clears column l of X times the pivot row, and nothing in column i
unfoldable pub column_factor : ℕ → ℕ → (ℕ → ℕ) → Vect → ℕ → ℕ
column_factor p i e X l = pick (ℕ_discrete l i) 0 (p - X l (e l))

-- what the loops of a step need of the rows: words below p, entries that end at the pivot degrees, and other rows below the pivots
pub record BasisShape (p n : ℕ) (Q : ℕ → Vect) (e : ℕ → ℕ) : Type 0 where
  pub small : (l : ℕ) → l < n → Residues p (Q l)
  pub ends : (l : ℕ) → l < n → RowEndsAt n (Q l) e
  pub clear : (l k : ℕ) → l < n → k < n → l ≢ k → Q l k (e k) ≡ 0

-- rows N are rows Q moved at row i: cleared by the factors m, and row i the cleared multiple of X
pub record Moved (p n : ℕ) (m e : ℕ → ℕ) (i : ℕ) (Q N : ℕ → Vect) : Type 0 where
  pub row : N i ≡ moved_row p n m (column_factor p i e (times_x (Q i))) Q i
  pub rows : (l : ℕ) → l < n → l ≢ i → N l ≡ cleared_row p m Q i l
