-- A set among many and the same set asked alone: with the sizes admitted only 6 is left to test, so the single call's contract holds of the set.
--   alone       the single call's outcome
--   set_same    two answers to one set
--   set_cases   a set is answered, or refused with 6
--   set_full    neither changes a length
use mathlib.Core.Path.{◌≡◌, refl, ap, sym, ◌∙◌}
use mathlib.Core.Bool.{Bool, true, false}
use mathlib.Core.Logic.{◌↔◌, ◌⊎◌, inl, inr}
use mathlib.Core.List.{List, [], ◌∷◌}
use Prim.Native.Nat.{ℕ, ◌≤◌}
use lib.ListN.{length}
use Rattle.field.specs.Refusal.{NoTest, First, Outcome}
use Rattle.field.specs.Answer.{Answer, refusal}
use Rattle.field.proofs.Outcome.{no_result_refused}
use Rattle.field.proofs.Truth.{fails}
use Rattle.words.specs.Some.{Some}
use Rattle.sizes.specs.Lengths.{basis_length}
use Rattle.solve.specs.Sizes.{Sizes}
use Rattle.std.proofs.Common.{Result, Ok, Err}
use Rattle.field.specs.declared.Refusal.{Refusal}
use Rattle.field.specs.Number.{number_of}
use Rattle.engine.specs.declared.BasisResult.{BasisResult}
use Rattle.engine.specs.Answers.{basis_says}
use Rattle.engine.specs.Basis.{BasisAnswered, BasisOutcome}
use Rattle.engine.proofs.Admitted.{only_coefficients}
use Rattle.engine.proofs.Unique.{basis_unique}
use Rattle.sets.specs.Answer.{answer_length, answer_words}
use Rattle.sets.specs.Set.{SetOutcome, SetAnswered}

module _ {p n s : ℕ} {d series : List ℕ} (lent : List ℕ) (z : Sizes p n s d series (length lent)) where
  pub alone : (said : Answer) (left : List ℕ) → SetOutcome p n s d series lent said left → BasisOutcome p n s d series lent said left
  unfolding SetOutcome BasisOutcome
  alone said left = only_coefficients p n s d series (length lent) z _ _

  pub set_same : {left words left' words' : List ℕ} → SetAnswered p n s d series lent left words → SetAnswered p n s d series lent left' words'
      → (left ≡ left') × (words ≡ words')
  set_same {left} {left'} a b =
      let same = basis_unique p n s d series lent a.answer b.answer left left' (alone _ left a.outcome) (alone _ left' b.outcome) in
      (same.1, a.in_words ∙ ap answer_words same.0 ∙ sym b.in_words)

-- what the test of the coefficients decides, of the words that were cut out as the set
module _ {p : ℕ} (n s : ℕ) (d cut series lent : List ℕ) (cut_out : cut ≡ series) (found : Bool) (test : (found ≡ true) ↔ Some (λ x. p ≤ x) cut) where
  pub refused_set : found ≡ true → SetOutcome p n s d series lent (refusal 6) lent
  unfolding SetOutcome Outcome First
  refused_set e = inr (6, inl (rw cut_out at (test.0 e), refl), (refl, refl))

  pub answered_set : (said : Answer) (left : List ℕ) → found ≡ false → BasisAnswered p n s d cut left said → SetOutcome p n s d series lent said left
  unfolding SetOutcome Outcome NoTest
  answered_set said left e a = inl ((rw cut_out at (fails found test e), tt), rw cut_out at a)

-- a set that is answered, and one that is refused
pub record Answered (p n s : ℕ) (d series lent left words : List ℕ) : Type 0 where
  pub found : BasisResult
  pub in_words : words ≡ 0 ∷ found.least ∷ found.count ∷ []
  pub outcome : SetOutcome p n s d series lent (basis_says (Ok found)) left
  pub residues : ¬ (Some (λ x. p ≤ x) series)

pub record Refused (p : ℕ) (series lent left words : List ℕ) : Type 0 where
  pub in_words : words ≡ 6 ∷ 0 ∷ 0 ∷ []
  pub as_lent : left ≡ lent
  pub outside : Some (λ x. p ≤ x) series

pub set_cases : {p n s : ℕ} {d series lent left words : List ℕ} → SetAnswered p n s d series lent left words
    → Answered p n s d series lent left words ⊎ Refused p series lent left words
unfolding SetOutcome Outcome NoTest First
set_cases {p} {n} {s} {d} {series} {lent} {left} {words} a = cases a.answer a.outcome a.in_words
  where
    cases : (answer : Result BasisResult Refusal) → SetOutcome p n s d series lent (basis_says answer) left → words ≡ answer_words answer
        → Answered p n s d series lent left words ⊎ Refused p series lent left words
    cases (Ok r) (inl b) e = inl (record { found = r; in_words = e; outcome = inl b; residues = b.0.0 })
    cases (Ok r) (inr b) e = absurd (no_result_refused b.2.0)
    cases (Err k) (inl b) e = absurd (no_result_refused (sym b.1.says))
    cases (Err k) (inr (j, inl f, b)) e =
        let same : number_of k ≡ 6 = (let q : refusal (number_of k) ≡ refusal j = b.0 in let i : number_of k ≡ j = cc in i ∙ sym f.1) in
        inr (record { in_words = e ∙ ap (λ (i : ℕ). i ∷ 0 ∷ 0 ∷ []) same; as_lent = b.1; outside = f.0 })
    cases (Err k) (inr (j, inr f, b)) e = absurd f.1

pub set_full : {p n s : ℕ} {d series lent left words : List ℕ} → SetAnswered p n s d series lent left words → length lent ≡ basis_length n s
    → (length left ≡ basis_length n s) × (length words ≡ answer_length)
unfolding SetOutcome Outcome
set_full {p} {n} {s} {d} {series} {lent} {left} {words} a e = (kept a.outcome, ap length a.in_words ∙ three a.answer)
  where
    kept : SetOutcome p n s d series lent (basis_says a.answer) left → length left ≡ basis_length n s
    kept (inl b) = b.1.found.full
    kept (inr b) = ap length b.2.1 ∙ e

    three : (answer : Result BasisResult Refusal) → length (answer_words answer) ≡ answer_length
    three (Ok r) = refl
    three (Err k) = refl
