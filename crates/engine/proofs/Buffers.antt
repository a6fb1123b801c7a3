-- What the words that an admitted call leaves tell. A call whose answer is no refusal was admitted, so that nothing else is assumed.
--   basis_words, approximant_words                    two sets of series: the words, the relations, the least row and the count
--   basis_combinations, approximant_combinations      every relation is a combination of the rows,
--   basis_one_way, approximant_one_way                and in exactly one way
--   basis_count, approximant_count                    the count is s - m
--   approximant_shifted, approximant_degrees          the approximant's row has shifted degree at most 0
use Rattle.std.proofs.Common.{Ok}
use mathlib.Core.Path.{◌≡◌, ap, sym, ◌∙◌}
use mathlib.Core.Logic.{◌↔◌}
use mathlib.Core.List.{List, [], ◌∷◌}
use Prim.Native.Nat.{ℕ, ◌+◌, ◌-◌, ◌≤◌, ◌<◌}
use lib.ListN.{length, get_or}
use lib.IntN.{pos}
use lib.Signed.{◌≤ℤ◌}
use Rattle.field.specs.Prime.{Prime}
use Rattle.field.specs.Answer.{result}
use Rattle.field.proofs.Outcome.{admitted}
use Rattle.relation.specs.Vector.{Vect}
use Rattle.relation.specs.Degree.{Degree}
use Rattle.relation.specs.Relation.{Relation}
use Rattle.relation.specs.SameRelations.{SameRelations}
use Rattle.relation.specs.LeadingZeros.{LeadingZeros}
use Rattle.relation.specs.Combination.{Combination}
use Rattle.relation.proofs.Integer.{pos_le}
use Rattle.relation.proofs.Theorems.{approximant_degree, approximant_entries}
use Rattle.row.specs.View.{vector, row}
use Rattle.solve.proofs.Found.{words_tell_relations, words_tell_numbers, relations_are_combinations, in_one_way, count_is}
use Rattle.engine.specs.declared.BasisResult.{BasisResult}
use Rattle.engine.specs.Answers.{basis_says}
use Rattle.engine.specs.Sigma.{order_of}
use Rattle.engine.specs.Basis.{BasisAnswered, BasisOutcome}
use Rattle.engine.specs.Approximant.{Approximated, ApproximantOutcome}
use Rattle.engine.proofs.Admitted.{basis_sizes, approximant_sizes}

-- what an admitted call gives, the basis call and the approximant call alike
record Given (p n s : ℕ) (d F left : List ℕ) (r : BasisResult) : Type 0 where
  prime : Prime p
  some : 0 < n
  answered : BasisAnswered p n s d F left (basis_says (Ok r))

-- the answer's numbers are those of the basis that was found
numbers : {p n s : ℕ} {d F left : List ℕ} {r : BasisResult} (a : BasisAnswered p n s d F left (basis_says (Ok r)))
    → (r.least ≡ a.least + 1) × (r.count ≡ a.count)
numbers {r} a =
    let q : result (r.least ∷ r.count ∷ []) ≡ result ((a.least + 1) ∷ a.count ∷ []) = a.says in
    (cc, cc)

-- two sets of series at one modulus, order and type: the words agree exactly when the relations do, and then the answers agree
abbrev pub WordsAgree : ℕ → ℕ → ℕ → List ℕ → List ℕ → List ℕ → List ℕ → BasisResult → BasisResult → Type 0
WordsAgree p n s F G left left' r r' =
    ((left ≡ left') ↔ SameRelations p n (vector s F) (vector s G) s) × (left ≡ left' → (r.least ≡ r'.least) × (r.count ≡ r'.count))

given_words : {p n s : ℕ} {d F G left left' : List ℕ} {r r' : BasisResult} → Given p n s d F left r → Given p n s d G left' r'
    → WordsAgree p n s F G left left' r r'
given_words {r} {r'} a b =
    let f = a.answered.found in
    let g = b.answered.found in
    let one = numbers a.answered in
    let two = numbers b.answered in (
      words_tell_relations a.prime f g a.some,
      λ e.
          let same = words_tell_numbers a.prime f g e in
          (one.0 ∙ ap (λ (l : ℕ). l + 1) same.0 ∙ sym two.0, one.1 ∙ same.1 ∙ sym two.1),
    )

module _ (p n s : ℕ) (d F lent left : List ℕ) (r : BasisResult) (o : BasisOutcome p n s d F lent (basis_says (Ok r)) left) where
  basis_given : Given p n s d F left r
  unfolding BasisOutcome
  basis_given =
      let a = admitted _ _ _ _ (λ k refused. refused.0) o in
      let z = basis_sizes p n s d F (length lent) a.0 in
      record { prime = z.modulus.prime; some = z.n_from; answered = a.1 }

  pub basis_combinations : (P : Vect) → Relation p n (vector s F) s P ↔ Combination p n (row n (s + 1) left) P
  basis_combinations = relations_are_combinations basis_given.prime basis_given.answered.found

  pub basis_one_way : (P : Vect) (a b : Combination p n (row n (s + 1) left) P) → a.by ≡ b.by
  basis_one_way = in_one_way basis_given.prime basis_given.answered.found

  pub basis_count : (m : ℕ) → LeadingZeros p n (vector s F) s m → r.count ≡ s - m
  basis_count m z = (numbers basis_given.answered).1 ∙ count_is basis_given.prime basis_given.answered.found m z

pub basis_words : (p n s : ℕ) (d F G lent lent' left left' : List ℕ) (r r' : BasisResult)
    → BasisOutcome p n s d F lent (basis_says (Ok r)) left → BasisOutcome p n s d G lent' (basis_says (Ok r')) left'
    → WordsAgree p n s F G left left' r r'
basis_words p n s d F G lent lent' left left' r r' o o' = given_words (basis_given p n s d F lent left r o) (basis_given p n s d G lent' left' r' o')

module _ (p n : ℕ) (d F lent left : List ℕ) (r : BasisResult) (o : ApproximantOutcome p n d F lent (basis_says (Ok r)) left) where
  approximant_given : Prime p × (0 < n) × Approximated p n (order_of n d) d F left (basis_says (Ok r))
  unfolding ApproximantOutcome
  approximant_given =
      let a = admitted _ _ _ _ (λ k refused. refused.0) o in
      let z = approximant_sizes p n d F (length lent) a.0 in
      (z.modulus.prime, z.n_from, a.1)

  -- the approximant's row is the least row of the basis at the order σ
  pub approximated : Approximated p n (order_of n d) d F left (basis_says (Ok r))
  approximated = approximant_given.2

  at_sigma : Given p n (order_of n d) d F left r
  at_sigma = record { prime = approximant_given.0; some = approximant_given.1; answered = approximated.answered }

  pub approximant_combinations : (P : Vect) → Relation p n (vector (order_of n d) F) (order_of n d) P ↔ Combination p n (row n (order_of n d + 1) left) P
  approximant_combinations = relations_are_combinations at_sigma.prime at_sigma.answered.found

  pub approximant_one_way : (P : Vect) (a b : Combination p n (row n (order_of n d + 1) left) P) → a.by ≡ b.by
  approximant_one_way = in_one_way at_sigma.prime at_sigma.answered.found

  pub approximant_count : (m : ℕ) → LeadingZeros p n (vector (order_of n d) F) (order_of n d) m → r.count ≡ order_of n d - m
  approximant_count m z = (numbers at_sigma.answered).1 ∙ count_is at_sigma.prime at_sigma.answered.found m z

  pub approximant_shifted : approximated.approximant.least.δ ≤ℤ pos 0
  approximant_shifted = approximant_degree at_sigma.prime approximated.approximant

  -- entry k has degree at most d_k
  pub approximant_degrees : (k t : ℕ) → k < n → Degree (row n (order_of n d + 1) left approximated.answered.least k) t → t ≤ get_or d k 0
  approximant_degrees k t hk dg = pos_le t (get_or d k 0) (approximant_entries at_sigma.prime approximated.approximant k t hk dg)

pub approximant_words : (p n : ℕ) (d F G lent lent' left left' : List ℕ) (r r' : BasisResult)
    → ApproximantOutcome p n d F lent (basis_says (Ok r)) left → ApproximantOutcome p n d G lent' (basis_says (Ok r')) left'
    → WordsAgree p n (order_of n d) F G left left' r r'
approximant_words p n d F G lent lent' left left' r r' o o' = given_words (at_sigma p n d F lent left r o) (at_sigma p n d G lent' left' r' o')
