-- The two ways in which an exported call ends.
use mathlib.Core.Path.{◌≡◌, refl, sym, subst, ◌∙◌}
use mathlib.Core.Logic.{◌≢◌, inl, inr}
use mathlib.Core.List.{List, []}
use Prim.Native.Nat.{ℕ}
use lib.ListN.{length}
use Rattle.std.specs.Prelude.{Result, Ok, Err}
use Rattle.field.specs.Refusal.{Outcome, First, NoTest}
use Rattle.field.specs.Answer.{Answer, result, refusal}
use Rattle.field.specs.Number.{number_of}
use Rattle.field.specs.declared.Refusal.{Refusal}
use Rattle.embed.specs.Says.{says}
use Rattle.embed.specs.Status.{status_of, words_left}
use Rattle.embed.specs.Given.{Told, Given}

module _ (size : ℕ) (Wrapped : Answer → Type 0) (Kept : Type 0) (lent : List ℕ) where
  pub other_length : length lent ≢ size → Kept → Given size Wrapped Kept lent 4 lent
  unfolding Given Outcome First
  other_length n k = inr (4, inl (n, refl), (refl, refl, k))

  pub given : (status : ℕ) (left : List ℕ) (said : Answer) → length lent ≡ size → Wrapped said
      → (status ≡ status_of said) × (left ≡ words_left said lent) → Given size Wrapped Kept lent status left
  unfolding Given Outcome NoTest
  given status left said e o told =
      inl (((λ n. n e), tt), record { said = said; outcome = o; status_word = told.0; answer_written = told.1 })

-- what a crate's own definition says of a result is told by its words and numbers
module _ {T E : Type 0} {words : T → List ℕ} {number : E → ℕ} (crate_says : Result T E → Answer) (value : (x : T) → crate_says (Ok x) ≡ result (words x)) (wrong : (e : E) → crate_says (Err e) ≡ refusal (number e)) where
  same_said : (r : Result T E) → says words number r ≡ crate_says r
  same_said (Ok x) = sym (value x)
  same_said (Err e) = sym (wrong e)

  pub given_result : (size : ℕ) (Wrapped : Answer → Type 0) (Kept : Type 0) (lent : List ℕ) (status : ℕ) (left : List ℕ) (r : Result T E) → length lent ≡ size → Wrapped (crate_says r)
      → (status ≡ status_of (says words number r)) × (left ≡ words_left (says words number r) lent) → Given size Wrapped Kept lent status left
  given_result size Wrapped Kept lent status left r e o told =
      given size Wrapped Kept lent status left (says words number r) e (subst Wrapped (sym (same_said r)) o) told

-- the status of a call that has no words to answer, whatever its own definition says of a value
module _ {T : Type 0} (crate_says : Result T Refusal → Answer) (value : (x : T) → status_of (crate_says (Ok x)) ≡ 0) (wrong : (e : Refusal) → status_of (crate_says (Err e)) ≡ number_of e) where
  same_status : (r : Result T Refusal) → status_of (says (λ (x : T). []) number_of r) ≡ status_of (crate_says r)
  same_status (Ok x) = sym (value x)
  same_status (Err e) = sym (wrong e)

  pub told_result : (Wrapped : Answer → Type 0) (status : ℕ) (r : Result T Refusal) → Wrapped (crate_says r) → status ≡ status_of (says (λ (x : T). []) number_of r) → Told Wrapped status
  told_result Wrapped status r o e = record { said = crate_says r; outcome = o; status_word = e ∙ same_status r }
