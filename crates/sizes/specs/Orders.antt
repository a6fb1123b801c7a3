-- The parts from which the orders of calls with n series are built: each number of document 01 beside its test.
use Rattle.std.specs.Prelude.{◌⊎◌, ◌≢◌, List, [], ◌∷◌, ◌++◌, ℕ, ◌*◌, ◌≤◌, ◌<◌, length}
use Rattle.field.specs.Modulus.{Modulus}
use Rattle.field.specs.Refusal.{Order, ◌when◌}
use Rattle.words.specs.Some.{Some}
use Rattle.sizes.specs.Entry.{EntryOutside}

-- 1, 2
abbrev pub start_order : ℕ → ℕ → Order
start_order p n = (1 when (¬ (Modulus p))) ∷ (2 when ((n < 1) ⊎ (8 < n))) ∷ []

-- 1, 2, 3
abbrev pub sizes_order : ℕ → ℕ → ℕ → Order
sizes_order p n s = start_order p n ++ ((3 when (255 < s)) ∷ [])

-- 5
abbrev pub entries_order : List ℕ → Order
entries_order d = (5 when (Some EntryOutside d)) ∷ []

-- 6
abbrev pub coefficients_order : ℕ → List ℕ → Order
coefficients_order p l = (6 when (Some (λ x. p ≤ x) l)) ∷ []

-- 4 for type and series, 5, 6
abbrev pub job_order : ℕ → ℕ → ℕ → List ℕ → List ℕ → Order
job_order p n s d series = (4 when ((length d ≢ n) ⊎ (length series ≢ n * s))) ∷ (entries_order d ++ coefficients_order p series)
