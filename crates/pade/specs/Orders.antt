-- The refusals of the pair call, in order: each number beside its test. r and t stand here by their lengths.
use Rattle.std.specs.Prelude.{◌⊎◌, ◌≢◌, List, [], ◌∷◌, ◌++◌, ℕ, ◌+◌, ◌-◌, ◌<◌, length}
use Rattle.field.specs.Refusal.{Order, ◌when◌}
use Rattle.field.specs.Calls.{modulus_order}
use Rattle.words.specs.Polynomial.{poly}
use Rattle.sizes.specs.Orders.{coefficients_order}
use Rattle.relation.specs.Fraction.{HasFraction}

-- 3 for N, the length of g, 7, 4, 6
abbrev pub rest_order : ℕ → ℕ → List ℕ → ℕ → ℕ → Order
rest_order p k g r t =
    (3 when (255 < length g))
    ∷ (7 when ((k < 1) ⊎ (length g < k)))
    ∷ (4 when ((r ≢ k) ⊎ (t ≢ length g - k + 1)))
    ∷ coefficients_order p g

-- the tests of the arguments: "1, 3 for N, 7, 4, 6"
abbrev pub arguments_order : ℕ → ℕ → List ℕ → ℕ → ℕ → Order
arguments_order p k g r t = modulus_order p ++ rest_order p k g r t

-- "13, no fraction, last in the pair's order"
abbrev pub last_order : ℕ → ℕ → List ℕ → Order
last_order p k g = (13 when (¬ (HasFraction p k (length g) (poly g)))) ∷ []

abbrev pub pair_order : ℕ → ℕ → List ℕ → ℕ → ℕ → Order
pair_order p k g r t = arguments_order p k g r t ++ last_order p k g
