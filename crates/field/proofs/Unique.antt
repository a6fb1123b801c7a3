-- For each call, two outcomes that meet its contract for the same arguments are equal.
use Rattle.std.proofs.Common.{◌≡◌, ℕ, ◌+◌, ◌*◌, ◌<◌, Bool, true, false, ◌⊎◌, ◌↔◌, [], ◌∷◌, Option, Some, None, Result, Ok, Err, sym, refl, ap, ◌∙◌, inl, inr}
use mathlib.Core.HLevel.{is_prop→PathP}
use Rattle.std.proofs.Math.Bridge.{le_prop}
use Rattle.field.specs.Refusal.{Order}
use Rattle.field.specs.Answer.{Answer, result, refusal, no_inverse}
use Rattle.field.specs.Calls.{Says, field_says, residue_says, inverse_says, MakeOutcome, ResidueOutcome, AddOutcome, MultiplyOutcome, InvertOutcome}
use Rattle.field.specs.Inverse.{Inverse}
use Rattle.field.specs.declared.Field.{Field}
use Rattle.field.specs.declared.Refusal.{Refusal}
use Rattle.field.proofs.Numbered.{same_number}
use Rattle.field.proofs.Outcome.{same_outcome}
use Rattle.field.proofs.Prime.{zero_no_inverse, inverse_unique}

same_field : (f f' : Field) → f.modulus ≡ f'.modulus → f ≡ f'
same_field f f' i = λ j. record { modulus = i j; positive = is_prop→PathP (λ k. 0 < i k) (λ k. le_prop) f.positive f'.positive j }

-- what the answers say tells them apart
field_told : (r r' : Result Field Refusal) → field_says r ≡ field_says r' → r ≡ r'
field_told (Ok f) (Ok f') e =
    let i : f.modulus ≡ f'.modulus = cc in
    ap Ok (same_field f f' i)
field_told (Ok f) (Err k) e = cc
field_told (Err k) (Ok f) e = cc
field_told (Err k) (Err k') e = ap Err (same_number k k' cc)

residue_told : (r r' : Result ℕ Refusal) → residue_says r ≡ residue_says r' → r ≡ r'
residue_told (Ok x) (Ok x') e = cc
residue_told (Ok x) (Err k) e = cc
residue_told (Err k) (Ok x) e = cc
residue_told (Err k) (Err k') e = ap Err (same_number k k' cc)

inverse_told : (r r' : Result (Option ℕ) Refusal) → inverse_says r ≡ inverse_says r' → r ≡ r'
inverse_told (Ok (Some x)) (Ok (Some x')) e = cc
inverse_told (Ok (Some x)) (Ok None) e = cc
inverse_told (Ok (Some x)) (Err k) e = cc
inverse_told (Ok None) (Ok (Some x)) e = cc
inverse_told (Ok None) (Ok None) e = refl
inverse_told (Ok None) (Err k) e = cc
inverse_told (Err k) (Ok (Some x)) e = cc
inverse_told (Err k) (Ok None) e = cc
inverse_told (Err k) (Err k') e = ap Err (same_number k k' cc)

-- calls of one order say the same where their answers do
says_unique : (o : Order) (s s' : Answer) (A A' : Type 0) → (A → A' → s ≡ s') → Says o s A → Says o s' A' → s ≡ s'
says_unique o s s' A A' f h h' = elim (same_outcome o (λ k. s ≡ refusal k) (λ k. s' ≡ refusal k) A A' h h') [
  | inl a ↦ f a.0 a.1
  | inr a ↦ a.1 ∙ sym a.2
]

pub make_unique : (p : ℕ) (r r' : Result Field Refusal) → MakeOutcome p (field_says r) → MakeOutcome p (field_says r') → r ≡ r'
unfolding MakeOutcome
make_unique p r r' h h' = field_told r r' (says_unique _ _ _ _ _ (λ e e'. e ∙ sym e') h h')

pub residue_unique : (p a b n : ℕ) (r r' : Result ℕ Refusal) → ResidueOutcome p a b n (residue_says r) → ResidueOutcome p a b n (residue_says r') → r ≡ r'
unfolding ResidueOutcome
residue_unique p a b n r r' h h' = residue_told r r' (says_unique _ _ _ _ _ (λ e e'. e ∙ sym e') h h')

pub add_unique : (p a b : ℕ) (r r' : Result ℕ Refusal) → AddOutcome p a b (residue_says r) → AddOutcome p a b (residue_says r') → r ≡ r'
add_unique p a b = residue_unique p a b (a + b)

pub multiply_unique : (p a b : ℕ) (r r' : Result ℕ Refusal) → MultiplyOutcome p a b (residue_says r) → MultiplyOutcome p a b (residue_says r') → r ≡ r'
multiply_unique p a b = residue_unique p a b (a * b)

pub invert_unique : (p a : ℕ) (r r' : Result (Option ℕ) Refusal) → InvertOutcome p a (inverse_says r) → InvertOutcome p a (inverse_says r') → r ≡ r'
unfolding InvertOutcome
invert_unique p a r r' h h' = inverse_told r r' (says_unique _ _ _ _ _ same h h')
  where
    Answered : Answer → Type 0
    Answered s = ((a ≡ 0) × (s ≡ no_inverse)) ⊎ ((b : ℕ) × Inverse p a b × (s ≡ result (b ∷ [])))

    same : {s s' : Answer} → Answered s → Answered s' → s ≡ s'
    same (inl z) (inl z') = z.1 ∙ sym z'.1
    same (inl z) (inr i) = absurd (zero_no_inverse p a i.0 z.0 i.1)
    same (inr i) (inl z) = absurd (zero_no_inverse p a i.0 z.0 i.1)
    same (inr i) (inr i') = i.2 ∙ ap (λ (b : ℕ). result (b ∷ [])) (inverse_unique p a i.0 i'.0 i.1 i'.1) ∙ sym i'.2

-- a test: is_prime and admits
pub test_unique : {A : Type 0} (t t' : Bool) → (t ≡ true) ↔ A → (t' ≡ true) ↔ A → t ≡ t'
test_unique true true h h' = refl
test_unique true false h h' = sym (h'.1 (h.0 refl))
test_unique false true h h' = h.1 (h'.0 refl)
test_unique false false h h' = refl
