-- The refusals of the whole call, in order: each number beside its test. Series, bases and answers stand here by their lengths.
use Rattle.std.specs.Prelude.{◌≢◌, List, ◌∷◌, ◌++◌, ℕ, ◌*◌, ◌<◌, length}
use Rattle.field.specs.Refusal.{Order, ◌when◌}
use Rattle.sizes.specs.Lengths.{basis_length}
use Rattle.sizes.specs.Orders.{sizes_order, entries_order}
use Rattle.sets.specs.Answer.{answer_length}

-- 14, a number of sets above 16; 4 for type, series, bases and answers; 5
abbrev pub lent_order : ℕ → ℕ → ℕ → List ℕ → ℕ → ℕ → ℕ → Order
lent_order n s sets d series bases answers =
    (14 when (16 < sets))
    ∷ (4 when (length d ≢ n))
    ∷ (4 when (series ≢ sets * (n * s)))
    ∷ (4 when (bases ≢ sets * basis_length n s))
    ∷ (4 when (answers ≢ sets * answer_length))
    ∷ entries_order d

-- "14, a number of sets above 16, after 3; 1 to 5 refuse the whole call"
abbrev pub bases_order : ℕ → ℕ → ℕ → ℕ → List ℕ → ℕ → ℕ → ℕ → Order
bases_order p n s sets d series bases answers = sizes_order p n s ++ lent_order n s sets d series bases answers
