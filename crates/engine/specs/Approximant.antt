-- The outcome of the approximant call: the basis at the order σ of the type, and its least row, which is the approximant.
use Rattle.std.specs.Prelude.{◌≡◌, List, ℕ, ◌+◌, length}
use Rattle.field.specs.Refusal.{Outcome}
use Rattle.field.specs.Answer.{Answer, refusal}
use Rattle.relation.specs.Approximant.{Approximant}
use Rattle.row.specs.View.{vector, row}
use Rattle.sizes.specs.Entry.{type_of}
use Rattle.engine.specs.Sigma.{order_of}
use Rattle.engine.specs.Orders.{approximant_order}
use Rattle.engine.specs.Basis.{BasisAnswered}

pub record Approximated (p n σ : ℕ) (d series basis : List ℕ) (said : Answer) : Type 0 where
  pub answered : BasisAnswered p n σ d series basis said
  pub approximant : Approximant p n (vector σ series) (type_of d) σ (row n (σ + 1) basis) answered.least

unfoldable pub ApproximantOutcome : ℕ → ℕ → List ℕ → List ℕ → List ℕ → Answer → List ℕ → Type 0
ApproximantOutcome p n d series lent said left =
    Outcome (approximant_order p n d series (length lent)) (λ k. (said ≡ refusal k) × (left ≡ lent)) (Approximated p n (order_of n d) d series left said)
