-- The refusals of each call, in document 01's order: each number beside its test. A lent basis stands here by its length.
use Rattle.std.specs.Prelude.{◌⊎◌, ◌≢◌, List, ◌∷◌, ◌++◌, ℕ, ◌*◌, ◌<◌, length}
use Rattle.field.specs.Refusal.{Order, ◌when◌}
use Rattle.sizes.specs.Lengths.{basis_length}
use Rattle.sizes.specs.Orders.{start_order, sizes_order, entries_order, coefficients_order, job_order}
use Rattle.engine.specs.Sigma.{order_of}

-- 4 for the basis, 4 for type and series, 5, 6
abbrev pub buffers_order : ℕ → ℕ → ℕ → List ℕ → List ℕ → ℕ → Order
buffers_order p n s d series basis = (4 when (basis ≢ basis_length n s)) ∷ job_order p n s d series

-- "Basis: 1, 2, 3, 4, 5, 6."
abbrev pub basis_order : ℕ → ℕ → ℕ → List ℕ → List ℕ → ℕ → Order
basis_order p n s d series basis = sizes_order p n s ++ buffers_order p n s d series basis

-- 4 for the type, 5
abbrev pub type_order : ℕ → List ℕ → Order
type_order n d = (4 when (length d ≢ n)) ∷ entries_order d

-- 3 for the order s, 4 for series and basis, 6
abbrev pub series_order : ℕ → ℕ → ℕ → List ℕ → ℕ → Order
series_order p n s series basis =
    (3 when (255 < s))
    ∷ (4 when ((length series ≢ n * s) ⊎ (basis ≢ basis_length n s)))
    ∷ coefficients_order p series

-- "Approximant: 1, 2, 4 for the type, 5, 3 for σ, 4 for the rest, 6."
abbrev pub approximant_order : ℕ → ℕ → List ℕ → List ℕ → ℕ → Order
approximant_order p n d series basis = start_order p n ++ (type_order n d ++ series_order p n (order_of n d) series basis)
