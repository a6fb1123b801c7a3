-- What an exported call gives: the outcome of the call that it wraps, as a status word and answer words.
use Rattle.std.specs.Prelude.{◌≡◌, ◌≢◌, List, [], ◌∷◌, ℕ, length}
use Rattle.field.specs.Refusal.{Order, ◌when◌, Outcome}
use Rattle.field.specs.Answer.{Answer}
use Rattle.embed.specs.Status.{status_of, words_left}

-- a call without an answer buffer: the status of what the wrapped call says
pub record Told (Wrapped : Answer → Type 0) (status : ℕ) : Type 0 where
  pub said : Answer
  pub outcome : Wrapped said
  pub status_word : status ≡ status_of said

-- the same with an answer buffer, lent as `lent` and left as `left`
pub record ToldIn (Wrapped : Answer → Type 0) (lent : List ℕ) (status : ℕ) (left : List ℕ) : Type 0 where
  pub said : Answer
  pub outcome : Wrapped said
  pub status_word : status ≡ status_of said
  pub answer_written : left ≡ words_left said lent

-- an answer buffer of another length than stated gives 4 before every other test
abbrev pub answer_order : ℕ → List ℕ → Order
answer_order size lent = (4 when (length lent ≢ size)) ∷ []

-- `Kept` says that the call's other buffers are as lent
unfoldable pub Given : ℕ → (Answer → Type 0) → Type 0 → List ℕ → ℕ → List ℕ → Type 0
Given size Wrapped Kept lent status left =
    Outcome (answer_order size lent) (λ k. (status ≡ k) × (left ≡ lent) × Kept) (ToldIn Wrapped lent status left)
