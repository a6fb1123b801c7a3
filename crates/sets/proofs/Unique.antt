-- Two outcomes of the call for many sets that meet its contract for the same arguments are equal: result, bases and answers.
use mathlib.Core.Path.{◌≡◌, refl, sym, ◌∙◌}
use mathlib.Core.Logic.{inl, inr}
use mathlib.Core.List.{List}
use Prim.Native.Nat.{ℕ, ◌<◌}
use native.Mathlib.Nat.{mul-pos}
use native.Mathlib.Omega.{arith}
use lib.ListN.{length}
use Rattle.field.proofs.Outcome.{keep, same_outcome}
use Rattle.words.specs.Part.{part}
use Rattle.sizes.specs.Lengths.{basis_length}
use Rattle.row.proofs.Rows.{parts_ext}
use Rattle.std.proofs.Common.{Result, Ok, Err, ap}
use Rattle.field.specs.declared.Refusal.{Refusal}
use Rattle.field.proofs.Numbered.{same_number}
use Rattle.sets.specs.Answer.{bases_says, answer_length}
use Rattle.sets.specs.Bases.{BasesAnswered, BasesOutcome}
use Rattle.sets.proofs.BasesSizes.{BasesSizes}
use Rattle.sets.proofs.Admitted.{bases_sizes, part_sizes}
use Rattle.sets.proofs.Alone.{set_same}

-- what the answers say tells them apart
bases_told : (r r' : Result Unit Refusal) → bases_says r ≡ bases_says r' → r ≡ r'
bases_told (Ok u) (Ok u') e = refl
bases_told (Ok u) (Err k) e = cc
bases_told (Err k) (Ok u) e = cc
bases_told (Err k) (Err k') e = ap Err (same_number k k' cc)

-- set by set
answered_same : {p n s sets : ℕ} {d series lent left answers left' answers' : List ℕ} {words : ℕ}
    → BasesSizes p n s sets d (length series) (length lent) words
    → BasesAnswered p n s sets d series lent left answers → BasesAnswered p n s sets d series lent left' answers' → (left ≡ left') × (answers ≡ answers')
answered_same {n} {s} {sets} {series} {lent} {left} {answers} {left'} {answers'} z a b =
    let size : ℕ = basis_length n s in
    let some : 0 < size = mul-pos z.n_from (mul-pos z.n_from (omega arith)) in
    let same : (j : ℕ) → j < sets → (part size j left ≡ part size j left') × (part answer_length j answers ≡ part answer_length j answers') =
    λ j h. set_same (part size j lent) (part_sizes series z j h lent refl) (a.each j h) (b.each j h) in (
      parts_ext sets size left left' some a.bases_words b.bases_words (λ j h. (same j h).0),
      parts_ext sets answer_length answers answers' (omega arith) a.answers_words b.answers_words (λ j h. (same j h).1),
    )

pub bases_unique : (p n s sets : ℕ) (d series lent words : List ℕ) (r r' : Result Unit Refusal) (left answers left' answers' : List ℕ)
    → BasesOutcome p n s sets d series lent words (bases_says r) left answers → BasesOutcome p n s sets d series lent words (bases_says r') left' answers'
    → (r ≡ r') × (left ≡ left') × (answers ≡ answers')
unfolding BasesOutcome
bases_unique p n s sets d series lent words r r' left answers left' answers' h h' = elim (same_outcome _ _ _ _ _ (keep _ _ _ h) h') [
  | inl w ↦
      let same = answered_same (bases_sizes p n s sets d (length series) (length lent) (length words) w.0.0) w.0.1.1 w.1.1 in
      (bases_told r r' (w.0.1.0 ∙ sym w.1.0), same.0, same.1)
  | inr w ↦ (bases_told r r' (w.1.0 ∙ sym w.2.0), w.1.1 ∙ sym w.2.1, w.1.2 ∙ sym w.2.2)
]
