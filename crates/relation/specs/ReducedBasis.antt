-- The reduced minimal basis by weights, with its pivot degrees: the form in which the loops of the engine keep it.
-- That it says what `MinimalBasis` and `Reduced` say is proved in proofs/Bridge.
use Rattle.std.specs.Prelude.{◌≡◌, ◌≢◌, ℕ, ◌≤◌, ◌<◌}
use Rattle.relation.specs.Vector.{Vect, IsVec}
use Rattle.relation.specs.Relation.{VanishesTo}
use Rattle.relation.specs.Weight.{LeadsAt}

-- rows of V_s, row i with its leading position in entry i, at the least degree that V_s has there
pub record WeightBasis (p n : ℕ) (b : ℕ → ℕ) (F : Vect) (s : ℕ) (Q : ℕ → Vect) (e : ℕ → ℕ) : Type 0 where
  pub vec : (i : ℕ) → i < n → IsVec p n (Q i)
  pub mem : (i : ℕ) → i < n → VanishesTo p n F s (Q i)
  pub lead : (i : ℕ) → i < n → LeadsAt n b (Q i) i (e i)
  pub least : (i : ℕ) → i < n → (P : Vect) → IsVec p n P → VanishesTo p n F s P → (d : ℕ) → LeadsAt n b P i d → e i ≤ d

-- the pivots are 1, and in each column the other rows stay below the pivot
pub record ReducedAt (n : ℕ) (Q : ℕ → Vect) (e : ℕ → ℕ) : Type 0 where
  pub monic : (i : ℕ) → i < n → Q i i (e i) ≡ 1
  pub clear : (l k : ℕ) → l < n → k < n → l ≢ k → (t : ℕ) → e k ≤ t → Q l k t ≡ 0

pub record ReducedBasis (p n : ℕ) (b : ℕ → ℕ) (F : Vect) (s : ℕ) (Q : ℕ → Vect) (e : ℕ → ℕ) : Type 0 where
  pub basis : WeightBasis p n b F s Q e
  pub reduced : ReducedAt n Q e
