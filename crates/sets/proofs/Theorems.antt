-- What an answered call for many sets says of each set j, counted from 0.
--   as_alone                               its part and its three words are what the single call gives for it, refusal 6 included
--   refused_exactly, refused_as_lent       it has 6, 0, 0 exactly where a coefficient is no residue, and its part is then as lent
--   answered_alone, set_answered           a set with the words 0, least row, count is what the single call found: the reduced minimal basis
--   set_combinations, set_one_way, set_count, sets_words   so the single call's theorems hold of each answered set
--   no_sets                                without a set no test but the sizes' and the lengths' is left
use mathlib.Core.Path.{◌≡◌, refl, ap, sym, ◌∙◌}
use mathlib.Core.Logic.{◌↔◌, ◌≢◌, inl, inr}
use mathlib.Core.List.{List, [], ◌∷◌}
use Prim.Native.Nat.{ℕ, ◌+◌, ◌*◌, ◌-◌, ◌≤◌, ◌<◌}
use native.Mathlib.Omega.{arith}
use lib.ListN.{length}
use Rattle.field.specs.Modulus.{Modulus}
use Rattle.field.specs.Refusal.{NoTest}
use Rattle.field.proofs.Outcome.{none_both, admitted}
use Rattle.field.proofs.Truth.{exact}
use Rattle.words.specs.Part.{part}
use Rattle.words.specs.Some.{Some}
use Rattle.sizes.specs.Entry.{EntryOutside}
use Rattle.sizes.specs.Lengths.{basis_length}
use Rattle.sizes.specs.Orders.{sizes_order}
use Rattle.sizes.proofs.Passed.{sizes_pass}
use Rattle.solve.specs.Sizes.{Sizes}
use Rattle.relation.specs.Vector.{Vect}
use Rattle.relation.specs.Relation.{Relation}
use Rattle.relation.specs.LeadingZeros.{LeadingZeros}
use Rattle.relation.specs.Combination.{Combination}
use Rattle.row.specs.View.{vector, row}
use Rattle.std.proofs.Common.{Result, Ok}
use Rattle.field.specs.declared.Refusal.{Refusal}
use Rattle.engine.specs.declared.BasisResult.{BasisResult}
use Rattle.engine.specs.Answers.{basis_says}
use Rattle.engine.specs.Basis.{BasisAnswered, BasisOutcome}
use Rattle.engine.proofs.Unique.{basis_unique}
use Rattle.engine.proofs.Buffers.{WordsAgree, basis_combinations, basis_one_way, basis_count, basis_words}
use Rattle.sets.specs.Answer.{bases_says, answer_length, answer_words}
use Rattle.sets.specs.Orders.{lent_order, bases_order}
use Rattle.sets.specs.Set.{SetAnswered}
use Rattle.sets.specs.Bases.{BasesAnswered, BasesOutcome}
use Rattle.sets.proofs.Admitted.{bases_sizes, part_sizes}
use Rattle.sets.proofs.Alone.{alone, set_cases}

module _ (p n s sets : ℕ) (d series lent words left answers : List ℕ)
    (o : BasesOutcome p n s sets d series lent words (bases_says (Ok tt)) left answers) (j : ℕ) (h : j < sets) where
  passed : NoTest (bases_order p n s sets d (length series) (length lent) (length words)) × BasesAnswered p n s sets d series lent left answers
  unfolding BasesOutcome
  passed = let a = admitted _ _ _ [] (λ k refused. refused.0) o in (a.0, a.1.1)

  sizes : Sizes p n s d (part (n * s) j series) (length (part (basis_length n s) j lent))
  sizes = part_sizes series (bases_sizes p n s sets d (length series) (length lent) (length words) passed.0) j h lent refl

  answered : SetAnswered p n s d (part (n * s) j series) (part (basis_length n s) j lent) (part (basis_length n s) j left) (part answer_length j answers)
  answered = passed.1.each j h

  pub as_alone : (r : Result BasisResult Refusal) (out : List ℕ) → BasisOutcome p n s d (part (n * s) j series) (part (basis_length n s) j lent) (basis_says r) out
      → (part answer_length j answers ≡ answer_words r) × (part (basis_length n s) j left ≡ out)
  as_alone r out single =
      let same = basis_unique p n s d _ _ answered.answer r _ out (alone _ sizes _ _ answered.outcome) single in
      (answered.in_words ∙ ap answer_words same.0, same.1)

  pub refused_exactly : (part answer_length j answers ≡ 6 ∷ 0 ∷ 0 ∷ []) ↔ Some (λ x. p ≤ x) (part (n * s) j series)
  refused_exactly = elim (set_cases answered) [
    | inl a ↦ ((λ e. absurd (let q = sym a.in_words ∙ e in let z : ◌≡◌ {A = ℕ} 0 6 = cc in omega arith)), λ x. absurd (a.residues x))
    | inr b ↦ ((λ e. b.outside), λ x. b.in_words)
  ]

  pub refused_as_lent : Some (λ x. p ≤ x) (part (n * s) j series) → part (basis_length n s) j left ≡ part (basis_length n s) j lent
  refused_as_lent x = elim (set_cases answered) [
    | inl a ↦ absurd (a.residues x)
    | inr b ↦ b.as_lent
  ]

  pub answered_alone : (r : BasisResult) → part answer_length j answers ≡ answer_words (Ok r)
      → BasisOutcome p n s d (part (n * s) j series) (part (basis_length n s) j lent) (basis_says (Ok r)) (part (basis_length n s) j left)
  answered_alone r e = elim (set_cases answered) [
    | inl a ↦
        let q : 0 ∷ a.found.least ∷ a.found.count ∷ [] ≡ 0 ∷ r.least ∷ r.count ∷ [] = sym a.in_words ∙ e in
        let l : a.found.least ≡ r.least = cc in
        let c : a.found.count ≡ r.count = cc in
        rw (l, c) at (alone _ sizes _ _ a.outcome)
    | inr b ↦ absurd (let q = sym b.in_words ∙ e in let z : ◌≡◌ {A = ℕ} 6 0 = cc in omega arith)
  ]

  module _ (r : BasisResult) (e : part answer_length j answers ≡ answer_words (Ok r)) where
    pub set_answered : BasisAnswered p n s d (part (n * s) j series) (part (basis_length n s) j left) (basis_says (Ok r))
    unfolding BasisOutcome
    set_answered = (admitted _ _ _ _ (λ k refused. refused.0) (answered_alone r e)).1

    pub set_combinations : (P : Vect) → Relation p n (vector s (part (n * s) j series)) s P ↔ Combination p n (row n (s + 1) (part (basis_length n s) j left)) P
    set_combinations = basis_combinations p n s d _ _ _ r (answered_alone r e)

    pub set_one_way : (P : Vect) (a b : Combination p n (row n (s + 1) (part (basis_length n s) j left)) P) → a.by ≡ b.by
    set_one_way = basis_one_way p n s d _ _ _ r (answered_alone r e)

    pub set_count : (m : ℕ) → LeadingZeros p n (vector s (part (n * s) j series)) s m → r.count ≡ s - m
    set_count = basis_count p n s d _ _ _ r (answered_alone r e)

-- two answered sets, of one call or of two
pub sets_words : (p n s sets sets' : ℕ) (d series series' lent lent' words words' left left' answers answers' : List ℕ)
    → BasesOutcome p n s sets d series lent words (bases_says (Ok tt)) left answers
    → BasesOutcome p n s sets' d series' lent' words' (bases_says (Ok tt)) left' answers'
    → (j k : ℕ) → j < sets → k < sets' → (r r' : BasisResult)
    → part answer_length j answers ≡ answer_words (Ok r) → part answer_length k answers' ≡ answer_words (Ok r')
    → WordsAgree p n s (part (n * s) j series) (part (n * s) k series') (part (basis_length n s) j left) (part (basis_length n s) k left') r r'
sets_words p n s sets sets' d series series' lent lent' words words' left left' answers answers' o o' j k h h' r r' e e' =
    basis_words p n s d _ _ _ _ _ _ r r'
    (answered_alone p n s sets d series lent words left answers o j h r e)
    (answered_alone p n s sets' d series' lent' words' left' answers' o' k h' r' e')

pub no_sets : (p n s : ℕ) (d : List ℕ) → Modulus p → 1 ≤ n → n ≤ 8 → s ≤ 255 → length d ≡ n → ¬ (Some EntryOutside d) → NoTest (bases_order p n s 0 d 0 0 0)
unfolding NoTest
no_sets p n s d m from to order words inside =
    let few : ¬ (16 < 0) = omega arith in
    let typed : ¬ (length d ≢ n) = exact words in
    none_both (sizes_order p n s) (lent_order n s 0 d 0 0 0) (sizes_pass m from to order)
    (search (few, typed), (search (few, typed), (exact (omega arith), (exact (omega arith), (exact refl, (inside, tt))))))
