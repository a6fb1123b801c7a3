-- Two outcomes of the pair call that meet its contract for the same arguments are equal: result and buffers.
use Rattle.std.proofs.Common.{◌≡◌, ℕ, List, length, Result, Ok, Err, refl, ap, sym, ◌∙◌, inl, inr}
use Rattle.field.specs.declared.Refusal.{Refusal}
use Rattle.field.proofs.Numbered.{same_number}
use Rattle.field.proofs.Outcome.{none_left, keep, same_outcome}
use Rattle.relation.proofs.Fraction.{lowest_unique}
use Rattle.row.proofs.Rows.{list_ext}
use Rattle.pade.specs.Answer.{pair_says}
use Rattle.pade.specs.Orders.{arguments_order, last_order}
use Rattle.pade.specs.Pair.{PairWritten, PairOutcome}
use Rattle.pade.specs.PairSizes.{PairSizes}
use Rattle.pade.proofs.Admitted.{pair_lent}

-- what the answers say tells them apart
pair_told : (a a' : Result Unit Refusal) → pair_says a ≡ pair_says a' → a ≡ a'
pair_told (Ok u) (Ok u') e = refl
pair_told (Ok u) (Err x) e = cc
pair_told (Err x) (Ok u) e = cc
pair_told (Err x) (Err x') e = ap Err (same_number x x' cc)

-- the fraction in lowest terms is one pair of lists
written_same : {p k : ℕ} {g r t r' t' : List ℕ} → PairSizes p k g → PairWritten p k g r t → PairWritten p k g r' t' → (r ≡ r') × (t ≡ t')
written_same {r} {t} {r'} {t'} z u v =
    let same = lowest_unique z.modulus.prime z.k_from z.k_to u.lowest v.lowest in
    (list_ext r r' (u.r_words ∙ sym v.r_words) (λ x. (same x).0), list_ext t t' (u.t_words ∙ sym v.t_words) (λ x. (same x).1))

pub pair_unique : (p k : ℕ) (g r t : List ℕ) (a a' : Result Unit Refusal) (r₁ t₁ r₂ t₂ : List ℕ)
    → PairOutcome p k g r t (pair_says a) r₁ t₁ → PairOutcome p k g r t (pair_says a') r₂ t₂ → (a ≡ a') × (r₁ ≡ r₂) × (t₁ ≡ t₂)
unfolding PairOutcome
pair_unique p k g r t a a' r₁ t₁ r₂ t₂ h h' =
    elim (same_outcome _ _ _ _ _ (keep _ _ _ h) h') [
      | inl w ↦
          let z = (pair_lent p k g (length r) (length t) (none_left (arguments_order p k g (length r) (length t)) (last_order p k g) w.0.0)).sizes in
          let same = written_same z w.0.1.1 w.1.1 in
          (pair_told a a' (w.0.1.0 ∙ sym w.1.0), same.0, same.1)
      | inr w ↦ (pair_told a a' (w.1.0 ∙ sym w.2.0), w.1.1 ∙ sym w.2.1, w.1.2 ∙ sym w.2.2)
    ]
