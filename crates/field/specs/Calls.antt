-- The field's calls: what each case of their answers says, the order of their refusals, and their outcomes.
use Rattle.std.specs.Prelude.{◌≡◌, ℕ, ◌+◌, ◌*◌, ◌%◌, ◌≤◌, ◌⊎◌, [], ◌∷◌, Option, Some, None, Result, Ok, Err, IsOk}
use Rattle.field.specs.Modulus.{Modulus}
use Rattle.field.specs.Inverse.{Inverse}
use Rattle.field.specs.Refusal.{Order, ◌when◌, Outcome}
use Rattle.field.specs.Answer.{Answer, result, refusal, no_inverse}
use Rattle.field.specs.Number.{number_of}
use Rattle.field.specs.declared.Field.{Field}
use Rattle.field.specs.declared.Refusal.{Refusal}

abbrev pub field_says : Result Field Refusal → Answer
field_says (Ok f) = result (f.modulus ∷ [])
field_says (Err e) = refusal (number_of e)

abbrev pub residue_says : Result ℕ Refusal → Answer
residue_says (Ok r) = result (r ∷ [])
residue_says (Err e) = refusal (number_of e)

abbrev pub inverse_says : Result (Option ℕ) Refusal → Answer
inverse_says (Ok (Some r)) = result (r ∷ [])
inverse_says (Ok None) = no_inverse
inverse_says (Err e) = refusal (number_of e)

-- the orders: the modulus (1), then each operand (6)
abbrev pub modulus_order : ℕ → Order
modulus_order p = (1 when (¬ (Modulus p))) ∷ []

abbrev pub operand_order : ℕ → ℕ → Order
operand_order p a = (1 when (¬ (Modulus p))) ∷ (6 when (p ≤ a)) ∷ []

abbrev pub operands_order : ℕ → ℕ → ℕ → Order
operands_order p a b = (1 when (¬ (Modulus p))) ∷ (6 when (p ≤ a)) ∷ (6 when (p ≤ b)) ∷ []

-- an answer is the refusal of this number
abbrev pub IsRefused : {A : Type 0} → Result A Refusal → ℕ → Type 0
IsRefused (Ok x) k = ⊥
IsRefused (Err e) k = number_of e ≡ k

-- the tests of a call alone
abbrev pub Tests : Order → Result Unit Refusal → Type 0
Tests o t = Outcome o (IsRefused t) (IsOk t)

-- a call without buffers: the refusal's number, or the answer
abbrev pub Says : Order → Answer → Type 0 → Type 0
Says o said Answered = Outcome o (λ k. said ≡ refusal k) Answered

unfoldable pub MakeOutcome : ℕ → Answer → Type 0
MakeOutcome p said = Says (modulus_order p) said (said ≡ result (p ∷ []))

-- the residue of n, for a call with the operands a and b
unfoldable pub ResidueOutcome : ℕ → ℕ → ℕ → ℕ → Answer → Type 0
ResidueOutcome p a b n said = Says (operands_order p a b) said (said ≡ result (n % p ∷ []))

abbrev pub AddOutcome : ℕ → ℕ → ℕ → Answer → Type 0
AddOutcome p a b said = ResidueOutcome p a b (a + b) said

abbrev pub MultiplyOutcome : ℕ → ℕ → ℕ → Answer → Type 0
MultiplyOutcome p a b said = ResidueOutcome p a b (a * b) said

-- the inverse of zero comes last, as its own case without a number
unfoldable pub InvertOutcome : ℕ → ℕ → Answer → Type 0
InvertOutcome p a said =
    Says (operand_order p a) said (((a ≡ 0) × (said ≡ no_inverse)) ⊎ ((b : ℕ) × Inverse p a b × (said ≡ result (b ∷ []))))
