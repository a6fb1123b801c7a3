-- The outcome of the call for many sets: series, bases and answers are cut into parts, one for each set.
use Rattle.std.specs.Prelude.{◌≡◌, List, [], ℕ, ◌*◌, ◌<◌, length}
use Rattle.field.specs.Refusal.{Outcome}
use Rattle.field.specs.Answer.{Answer, result, refusal}
use Rattle.words.specs.Part.{part}
use Rattle.sizes.specs.Lengths.{basis_length}
use Rattle.sets.specs.Answer.{answer_length}
use Rattle.sets.specs.Orders.{bases_order}
use Rattle.sets.specs.Set.{SetAnswered}

-- the bases are lent as `lent` and left as `left`
pub record BasesAnswered (p n s sets : ℕ) (d series lent left answers : List ℕ) : Type 0 where
  pub bases_words : length left ≡ sets * basis_length n s
  pub answers_words : length answers ≡ sets * answer_length
  pub each : (j : ℕ) → j < sets
      → SetAnswered p n s d (part (n * s) j series) (part (basis_length n s) j lent) (part (basis_length n s) j left) (part answer_length j answers)

-- and the answers are lent as `words` and left as `answers`
unfoldable pub BasesOutcome : ℕ → ℕ → ℕ → ℕ → List ℕ → List ℕ → List ℕ → List ℕ → Answer → List ℕ → List ℕ → Type 0
BasesOutcome p n s sets d series lent words said left answers =
    Outcome (bases_order p n s sets d (length series) (length lent) (length words))
    (λ k. (said ≡ refusal k) × (left ≡ lent) × (answers ≡ words))
    ((said ≡ result []) × BasesAnswered p n s sets d series lent left answers)
