-- The outcome of the basis call.
use Rattle.std.specs.Prelude.{◌≡◌, List, [], ◌∷◌, ℕ, ◌+◌, length}
use Rattle.field.specs.Refusal.{Outcome}
use Rattle.field.specs.Answer.{Answer, result, refusal}
use Rattle.solve.specs.Found.{BasisFound}
use Rattle.engine.specs.Orders.{basis_order}

-- the answer's two numbers; rows are counted from 1 there
pub record BasisAnswered (p n s : ℕ) (d series basis : List ℕ) (said : Answer) : Type 0 where
  pub least : ℕ
  pub count : ℕ
  pub says : said ≡ result ((least + 1) ∷ count ∷ [])
  pub found : BasisFound p n s d series basis least count

-- the basis is lent as `lent` and left as `left`
unfoldable pub BasisOutcome : ℕ → ℕ → ℕ → List ℕ → List ℕ → List ℕ → Answer → List ℕ → Type 0
BasisOutcome p n s d series lent said left =
    Outcome (basis_order p n s d series (length lent)) (λ k. (said ≡ refusal k) × (left ≡ lent)) (BasisAnswered p n s d series left said)
