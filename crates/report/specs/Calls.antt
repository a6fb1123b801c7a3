-- The calls that write a text: what each case of their answer says, the order of their refusals, and their outcomes.
use Rattle.std.specs.Prelude.{◌≡◌, ◌⊎◌, ◌≢◌, List, [], ◌∷◌, ◌++◌, ℕ, ◌+◌, ◌*◌, ◌<◌, length, drop, Result, Ok, Err}
use Rattle.field.specs.Refusal.{Order, ◌when◌, Outcome}
use Rattle.field.specs.Answer.{Answer, result, refusal}
use Rattle.field.specs.Number.{number_of}
use Rattle.field.specs.declared.Refusal.{Refusal}
use Rattle.report.specs.Text.{basis_text, refusal_text}

abbrev pub text_says : Result ℕ Refusal → Answer
text_says (Ok n) = result (n ∷ [])
text_says (Err e) = refusal (number_of e)

-- how many bytes every text fits: 11 for each number, at 8 rows of 8 entries of 256 words
abbrev pub text_bytes : ℕ
text_bytes = 180809

-- n (2), the order (3), then the lengths of the lent slices (4)
abbrev pub basis_text_order : ℕ → ℕ → ℕ → ℕ → ℕ → Order
basis_text_order n s types words bytes =
    (2 when ((n < 1) ⊎ (8 < n))) ∷ (3 when (255 < s)) ∷ (4 when ((types ≢ n) ⊎ ((words ≢ n * (n * (s + 1))) ⊎ (bytes ≢ text_bytes)))) ∷ []

abbrev pub refusal_text_order : ℕ → Order
refusal_text_order bytes = (4 when (bytes ≢ text_bytes)) ∷ []

-- the text stands in the first bytes, and its length is answered; on a refusal the buffer stays as lent
abbrev pub TextOutcome : Order → List ℕ → List ℕ → List ℕ → Answer → Type 0
TextOutcome o text before after said =
    Outcome o (λ k. (said ≡ refusal k) × (after ≡ before)) ((said ≡ result (length text ∷ [])) × (after ≡ text ++ drop (length text) before))

unfoldable pub BasisTextOutcome : ℕ → ℕ → ℕ → List ℕ → List ℕ → ℕ → List ℕ → List ℕ → Answer → Type 0
BasisTextOutcome p n s d basis least before after said =
    TextOutcome (basis_text_order n s (length d) (length basis) (length before)) (basis_text p n s d basis least) before after said

unfoldable pub RefusalTextOutcome : ℕ → List ℕ → List ℕ → Answer → Type 0
RefusalTextOutcome k before after said = TextOutcome (refusal_text_order (length before)) (refusal_text k) before after said
