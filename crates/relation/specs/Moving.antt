-- One order more: the row that moves, and the rows that a step leaves. Contracts of the step's parts cite them.
use Rattle.std.specs.Prelude.{◌≢◌, ℕ, ◌≤◌, ◌<◌}
use Rattle.relation.specs.Vector.{Vect}
use Rattle.relation.specs.Operations.{add_multiple, add_multiples, times_x}

-- of the numbers below n at which c is not 0, i has the least v
pub record FirstRow (n : ℕ) (c v : ℕ → ℕ) (i : ℕ) : Type 0 where
  pub row< : i < n
  pub nonzero : c i ≢ 0
  pub least : (l : ℕ) → l < n → c l ≢ 0 → v i ≤ v l

-- row l, cleared by m l times row i
abbrev pub cleared_row : ℕ → (ℕ → ℕ) → (ℕ → Vect) → ℕ → ℕ → Vect
cleared_row p m Q i l = add_multiple p (m l) (Q i) (Q l)

-- X times row i, cleared by a l times each cleared row l
abbrev pub moved_row : ℕ → ℕ → (ℕ → ℕ) → (ℕ → ℕ) → (ℕ → Vect) → ℕ → Vect
moved_row p n m a Q i = add_multiples p n a (cleared_row p m Q i) (times_x (Q i))
