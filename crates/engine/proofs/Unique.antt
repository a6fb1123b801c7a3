-- For each call, two outcomes that meet its contract for the same arguments are equal: result and buffers.
use Rattle.std.proofs.Common.{Result, Ok, Err}
use mathlib.Core.Path.{◌≡◌, ap, sym, ◌∙◌}
use mathlib.Core.Logic.{inl, inr}
use mathlib.Core.List.{List}
use Prim.Native.Nat.{ℕ, ◌<◌}
use lib.ListN.{length}
use Rattle.field.specs.Refusal.{Order, NoTest, Outcome}
use Rattle.field.specs.Answer.{Answer, refusal}
use Rattle.field.proofs.Outcome.{keep, same_outcome}
use Rattle.solve.proofs.Found.{found_unique}
use Rattle.field.specs.declared.Refusal.{Refusal}
use Rattle.field.proofs.Numbered.{same_number}
use Rattle.engine.specs.declared.BasisResult.{BasisResult}
use Rattle.engine.specs.Answers.{basis_says}
use Rattle.engine.specs.Basis.{BasisAnswered, BasisOutcome}
use Rattle.engine.specs.Approximant.{ApproximantOutcome}
use Rattle.engine.specs.RowView.{RowViewed}
use Rattle.engine.proofs.View.{fits_decided}
use Rattle.engine.proofs.Admitted.{basis_sizes, approximant_sizes}

-- what the answers say tells them apart
basis_told : (r r' : Result BasisResult Refusal) → basis_says r ≡ basis_says r' → r ≡ r'
basis_told (Ok r) (Ok r') e =
    let l : r.least ≡ r'.least = cc in
    let c : r.count ≡ r'.count = cc in
    ap Ok (λ j. record { least = l j; count = c j })
basis_told (Ok r) (Err k) e = cc
basis_told (Err k) (Ok r) e = cc
basis_told (Err k) (Err k') e = ap Err (same_number k k' cc)

-- the basis of some series is one list of words, with one least row and one count
answered_same : {p n s : ℕ} {d F xs ys : List ℕ} {said said' : Answer} → 0 < n
    → BasisAnswered p n s d F xs said → BasisAnswered p n s d F ys said' → (said ≡ said') × (xs ≡ ys)
answered_same hn a b =
    let same = found_unique hn a.found b.found in
    (a.says ∙ rw (same.1, same.2) (sym b.says), same.0)

-- two outcomes of one order, with buffers of one kind as lent
module _ {B : Type 0} (o : Order) (said said' : Answer) (lent left left' : B) (A A' : Type 0) where
  outcomes_same : (NoTest o → A → A' → (said ≡ said') × (left ≡ left'))
      → Outcome o (λ k. (said ≡ refusal k) × (left ≡ lent)) A → Outcome o (λ k. (said' ≡ refusal k) × (left' ≡ lent)) A' → (said ≡ said') × (left ≡ left')
  outcomes_same f h h' =
      elim (same_outcome o (λ k. (said ≡ refusal k) × (left ≡ lent)) (λ k. (said' ≡ refusal k) × (left' ≡ lent)) (NoTest o × A) A' (keep o _ A h) h') [
        | inl a ↦ f a.0.0 a.0.1 a.1
        | inr b ↦ (b.1.0 ∙ sym b.2.0, b.1.1 ∙ sym b.2.1)
      ]

-- whatever says the answers
pub basis_same : (p n s : ℕ) (d F lent : List ℕ) (said said' : Answer) (left left' : List ℕ)
    → BasisOutcome p n s d F lent said left → BasisOutcome p n s d F lent said' left' → (said ≡ said') × (left ≡ left')
unfolding BasisOutcome
basis_same p n s d F lent said said' left left' =
    outcomes_same _ said said' lent left left' _ _ (λ t a b. answered_same (basis_sizes p n s d F (length lent) t).n_from a b)

pub basis_unique : (p n s : ℕ) (d F lent : List ℕ) (r r' : Result BasisResult Refusal) (left left' : List ℕ)
    → BasisOutcome p n s d F lent (basis_says r) left → BasisOutcome p n s d F lent (basis_says r') left' → (r ≡ r') × (left ≡ left')
basis_unique p n s d F lent r r' left left' h h' =
    let q = basis_same p n s d F lent (basis_says r) (basis_says r') left left' h h' in
    (basis_told r r' q.0, q.1)

pub approximant_unique : (p n : ℕ) (d F lent : List ℕ) (r r' : Result BasisResult Refusal) (left left' : List ℕ)
    → ApproximantOutcome p n d F lent (basis_says r) left → ApproximantOutcome p n d F lent (basis_says r') left' → (r ≡ r') × (left ≡ left')
unfolding ApproximantOutcome
approximant_unique p n d F lent r r' left left' h h' =
    let q = outcomes_same _ (basis_says r) (basis_says r') lent left left' _ _ (λ t a b.
    answered_same (approximant_sizes p n d F (length lent) t).n_from a.answered b.answered) h h' in
    (basis_told r r' q.0, q.1)

pub view_unique : (basis : List ℕ) (n s i : ℕ) (v v' : List ℕ) → RowViewed basis n s i v → RowViewed basis n s i v' → v ≡ v'
view_unique basis n s i v v' a b = elim (fits_decided (length basis) n s i) [
  | yes f ↦ a.fits f ∙ sym (b.fits f)
  | no nf ↦ a.misfits nf ∙ sym (b.misfits nf)
]
