-- The outcome of one set, where the tests of the whole call passed: its own refusal is 6.
use Rattle.std.specs.Prelude.{◌≡◌, List, ℕ, Result}
use Rattle.field.specs.Refusal.{Outcome}
use Rattle.field.specs.Answer.{Answer, refusal}
use Rattle.sizes.specs.Orders.{coefficients_order}
use Rattle.field.specs.declared.Refusal.{Refusal}
use Rattle.engine.specs.declared.BasisResult.{BasisResult}
use Rattle.engine.specs.Answers.{basis_says}
use Rattle.engine.specs.Basis.{BasisAnswered}
use Rattle.sets.specs.Answer.{answer_words}

-- the set's part of the bases is lent as `lent` and left as `left`
unfoldable pub SetOutcome : ℕ → ℕ → ℕ → List ℕ → List ℕ → List ℕ → Answer → List ℕ → Type 0
SetOutcome p n s d series lent said left =
    Outcome (coefficients_order p series) (λ k. (said ≡ refusal k) × (left ≡ lent)) (BasisAnswered p n s d series left said)

-- and its three words are `words`
pub record SetAnswered (p n s : ℕ) (d series lent left words : List ℕ) : Type 0 where
  pub answer : Result BasisResult Refusal
  pub outcome : SetOutcome p n s d series lent (basis_says answer) left
  pub in_words : words ≡ answer_words answer
