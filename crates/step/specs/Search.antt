-- What the search for a row finds: the row of least weight among those whose flag is not 0, or that all flags are 0.
use Rattle.std.specs.Prelude.{◌≡◌, ◌⊎◌, ℕ, ◌≤◌, ◌<◌, Option, None, Some}
use Rattle.relation.specs.Moving.{FirstRow}

abbrev pub LeastAmong : ℕ → (ℕ → ℕ) → (ℕ → ℕ) → Option ℕ → Type 0
LeastAmong n flag v (Some i) = FirstRow n flag v i
LeastAmong n flag v None = (l : ℕ) → l < n → flag l ≡ 0

-- r is l where there was no row yet or l is strictly lower, and else the row that was there
abbrev pub Nearer : (ℕ → ℕ) → Option ℕ → ℕ → ℕ → Type 0
Nearer v None l r = r ≡ l
Nearer v (Some best) l r = ((v l < v best) × (r ≡ l)) ⊎ ((v best ≤ v l) × (r ≡ best))
