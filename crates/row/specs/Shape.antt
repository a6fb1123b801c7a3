-- What a row of words has to be like for the loops that end at the pivot degrees.
use Rattle.std.specs.Prelude.{◌≡◌, List, ℕ, ◌<◌}
use Rattle.relation.specs.Vector.{Vect}
use Rattle.degree.specs.declared.Degree.{Degree}
use Rattle.row.specs.View.{degree_at}

-- no coefficient above the degree e
abbrev pub EndsAt : (ℕ → ℕ) → ℕ → Type 0
EndsAt a e = (t : ℕ) → e < t → a t ≡ 0

-- entry k has no coefficient above e k
abbrev pub RowEndsAt : ℕ → Vect → (ℕ → ℕ) → Type 0
RowEndsAt n P e = (k : ℕ) → k < n → EndsAt (P k) (e k)

-- every coefficient is below p
abbrev pub Residues : ℕ → Vect → Type 0
Residues p P = (k t : ℕ) → P k t < p

-- the pivot degrees of n entries lie in w words each
abbrev pub TopsBelow : ℕ → ℕ → List Degree → Type 0
TopsBelow n w tops = (k : ℕ) → k < n → degree_at tops k < w
