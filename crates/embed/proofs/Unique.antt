-- For each wrapped call, two outcomes for the same arguments say the same, and the same of its buffers.
use mathlib.Core.Path.{◌≡◌, refl, ap, sym, ◌∙◌}
use mathlib.Core.Logic.{◌⊎◌, inl, inr}
use mathlib.Core.List.{List, [], ◌∷◌}
use Prim.Native.Nat.{ℕ, ◌+◌}
use lib.ListN.{length}
use Rattle.std.specs.Prelude.{Option, Some, None, Result, Ok}
use Rattle.field.specs.Refusal.{Order, Outcome}
use Rattle.field.specs.Answer.{Answer, result, refusal, no_inverse}
use Rattle.field.specs.Inverse.{Inverse}
use Rattle.field.specs.declared.Refusal.{Refusal}
use Rattle.field.specs.Calls.{inverse_says, MakeOutcome, ResidueOutcome, InvertOutcome}
use Rattle.field.proofs.Outcome.{same_outcome}
use Rattle.field.proofs.Unique.{invert_unique}
use Rattle.engine.specs.Answers.{basis_says}
use Rattle.engine.specs.Basis.{BasisOutcome}
use Rattle.engine.specs.Approximant.{ApproximantOutcome}
use Rattle.engine.proofs.Unique.{basis_same, approximant_unique}
use Rattle.engine.proofs.View.{fits_decided}
use Rattle.sets.specs.Answer.{bases_says}
use Rattle.sets.specs.Bases.{BasesOutcome}
use Rattle.sets.proofs.Unique.{bases_unique}
use Rattle.pade.specs.Answer.{pair_says}
use Rattle.pade.specs.Pair.{PairOutcome}
use Rattle.pade.proofs.Unique.{pair_unique}
use Rattle.jobfile.specs.Answers.{job_says, write_says}
use Rattle.jobfile.specs.Outcomes.{ReadOutcome, WriteOutcome}
use Rattle.jobfile.proofs.Theorems.{read_unique, write_unique}
use Rattle.report.specs.Calls.{TextOutcome, BasisTextOutcome, RefusalTextOutcome}
use Rattle.report.specs.Text.{basis_text, refusal_text}
use Rattle.jobreport.specs.Printed.{PrintOutcome}
use Rattle.jobreport.proofs.Unique.{printed_unique}
use Rattle.jobtext.specs.Job.{job_of_text}
use Rattle.jobtext.proofs.Unique.{parse_unique}
use Rattle.embed.specs.RowAt.{RowSaid}
use Rattle.embed.specs.Parsing.{parsed_says, ParseOutcome}

-- outcomes of one call, each with what it leaves in the buffers that are not its answer's
abbrev pub One : {B : Type 0} → (B → Answer → Type 0) → Type 0
One {B} W = (b b' : B) (said said' : Answer) → W b said → W b' said' → (said ≡ said') × (b ≡ b')

-- a call without such buffers
abbrev pub NoBuffers : Type 0
NoBuffers = Unit

-- the calls of one order, whose refusals leave nothing open, and whose answers are told by a unique R
module _ {R B : Type 0} (says : R → Answer) (o : Order) (Refused : ℕ → B → Answer → Type 0) (Answered : B → Answer → Type 0) where
  by_answers : ((k : ℕ) (b b' : B) (said said' : Answer) → Refused k b said → Refused k b' said' → (said ≡ said') × (b ≡ b'))
      → ((b : B) (said : Answer) → Answered b said → (r : R) × (says r ≡ said))
      → ((r r' : R) (b b' : B) → Outcome o (λ k. Refused k b (says r)) (Answered b (says r)) → Outcome o (λ k. Refused k b' (says r')) (Answered b' (says r')) → (r ≡ r') × (b ≡ b'))
      → One (λ b said. Outcome o (λ k. Refused k b said) (Answered b said))
  by_answers refused some unique b b' said said' h h' = elim (same_outcome o _ _ _ _ h h') [
    | inl w ↦
        let a = some b said w.0 in
        let a' = some b' said' w.1 in
        let q = unique a.0 a'.0 b b' (rw a.1 h) (rw a'.1 h') in
        (sym a.1 ∙ ap says q.0 ∙ a'.1, q.1)
    | inr w ↦ refused w.0 b b' said said' w.1 w.2
  ]

-- a refusal leaves one buffer or two as lent
two : {A B C : Type 0} {a a' : A} {b b' : B × C} → (a ≡ a') × (b.0 ≡ b'.0) × (b.1 ≡ b'.1) → (a ≡ a') × (b ≡ b')
two q = (q.0, λ i. (q.1 i, q.2 i))

one_kept : {lent : List ℕ} (k : ℕ) (b b' : List ℕ) (said said' : Answer) → (said ≡ refusal k) × (b ≡ lent) → (said' ≡ refusal k) × (b' ≡ lent) → (said ≡ said') × (b ≡ b')
one_kept k b b' said said' h h' = (h.0 ∙ sym h'.0, h.1 ∙ sym h'.1)

two_kept : {lent lent' : List ℕ} (k : ℕ) (b b' : List ℕ × List ℕ) (said said' : Answer) → (said ≡ refusal k) × (b.0 ≡ lent) × (b.1 ≡ lent')
    → (said' ≡ refusal k) × (b'.0 ≡ lent) × (b'.1 ≡ lent') → (said ≡ said') × (b ≡ b')
two_kept k b b' said said' h h' = two (h.0 ∙ sym h'.0, h.1 ∙ sym h'.1, h.2 ∙ sym h'.2)

pub make_one : (p : ℕ) → One (λ (b : NoBuffers). MakeOutcome p)
unfolding MakeOutcome
make_one p b b' said said' h h' = elim (same_outcome _ _ _ _ _ h h') [ inl w ↦ (w.0 ∙ sym w.1, refl) | inr w ↦ (w.1 ∙ sym w.2, refl) ]

pub residue_one : (p a b n : ℕ) → One (λ (u : NoBuffers). ResidueOutcome p a b n)
unfolding ResidueOutcome
residue_one p a b n u u' said said' h h' = elim (same_outcome _ _ _ _ _ h h') [ inl w ↦ (w.0 ∙ sym w.1, refl) | inr w ↦ (w.1 ∙ sym w.2, refl) ]

pub invert_one : (p a : ℕ) → One (λ (b : NoBuffers). InvertOutcome p a)
unfolding InvertOutcome
invert_one p a = by_answers inverse_says _ _ _ (λ k b b' said said' e e'. (e ∙ sym e', refl)) some (λ r r' b b' h h'. (invert_unique p a r r' h h', refl))
  where
    some : (b : NoBuffers) (said : Answer) → ((a ≡ 0) × (said ≡ no_inverse)) ⊎ ((b : ℕ) × Inverse p a b × (said ≡ result (b ∷ []))) → (r : Result (Option ℕ) Refusal) × (inverse_says r ≡ said)
    some b said (inl z) = (Ok None, sym z.1)
    some b said (inr i) = (Ok (Some i.0), sym i.2)

pub basis_one : (p n s : ℕ) (d F lent : List ℕ) → One (λ left said. BasisOutcome p n s d F lent said left)
basis_one p n s d F lent left left' said said' = basis_same p n s d F lent said said' left left'

pub approximant_one : (p n : ℕ) (d F lent : List ℕ) → One (λ left said. ApproximantOutcome p n d F lent said left)
unfolding ApproximantOutcome
approximant_one p n d F lent =
    by_answers basis_says _ _ _ one_kept (λ left said a. (Ok (record { least = a.answered.least + 1; count = a.answered.count }), sym a.answered.says)) (approximant_unique p n d F lent)

pub bases_one : (p n s sets : ℕ) (d F lent words : List ℕ) → One (λ (b : List ℕ × List ℕ) said. BasesOutcome p n s sets d F lent words said b.0 b.1)
unfolding BasesOutcome
bases_one p n s sets d F lent words =
    by_answers bases_says _ _ _ two_kept (λ b said a. (Ok tt, sym a.0)) (λ r r' b b' h h'.
    two (bases_unique p n s sets d F lent words r r' b.0 b.1 b'.0 b'.1 h h'))

pub pair_one : (p k : ℕ) (g r t : List ℕ) → One (λ (b : List ℕ × List ℕ) said. PairOutcome p k g r t said b.0 b.1)
unfolding PairOutcome
pair_one p k g r t =
    by_answers pair_says _ _ _ two_kept (λ b said a. (Ok tt, sym a.0)) (λ a a' b b' h h'. two (pair_unique p k g r t a a' b.0 b.1 b'.0 b'.1 h h'))

pub read_one : (file d F : List ℕ) → One (λ (b : List ℕ × List ℕ) said. ReadOutcome file d F said b.0 b.1)
unfolding ReadOutcome
read_one file d F =
    by_answers job_says _ _ _ two_kept (λ b said a. (Ok (record { p = a.job.p; n = a.job.n; s = a.job.s }), sym a.says)) (λ r r' b b' h h'.
    two (read_unique file d F r r' b.0 b.1 b'.0 b'.1 h h'))

pub write_one : (p n s : ℕ) (d F lent : List ℕ) → One (λ left said. WriteOutcome p n s d F lent said left)
unfolding WriteOutcome
write_one p n s d F lent = by_answers write_says _ _ _ one_kept (λ left said a. (Ok _, sym a.says)) (write_unique p n s d F lent)

pub parse_one : (text d F : List ℕ) → One (λ (b : List ℕ × List ℕ). ParseOutcome text d F b.0 b.1)
parse_one text d F b b' said said' h h' =
    let q = two (parse_unique (job_of_text text) h.parsed h'.parsed d b.0 b'.0 F b.1 b'.1 h.follows h'.follows) in
    (h.says ∙ ap parsed_says q.0 ∙ sym h'.says, q.1)

-- where the sizes fit, start and length are the row's, and else both are 0
pub row_one : (basis : List ℕ) (n s i : ℕ) → One (λ (b : NoBuffers). RowSaid basis n s i)
row_one basis n s i b b' said said' h h' = elim (fits_decided (length basis) n s i) [
  | yes f ↦ (same ((h.row_at.fits f).0 ∙ sym (h'.row_at.fits f).0) ((h.row_at.fits f).1 ∙ sym (h'.row_at.fits f).1), refl)
  | no g ↦ (same ((h.row_at.misfits g).0 ∙ sym (h'.row_at.misfits g).0) ((h.row_at.misfits g).1 ∙ sym (h'.row_at.misfits g).1), refl)
]
  where
    same : h.start ≡ h'.start → h.count ≡ h'.count → said ≡ said'
    same e e' = h.says ∙ rw (e, e') (sym h'.says)

text_one_of : (o : Order) (text before : List ℕ) → One (λ after. TextOutcome o text before after)
text_one_of o text before after after' said said' h h' = elim (same_outcome o _ _ _ _ h h') [
  | inl w ↦ (w.0.0 ∙ sym w.1.0, w.0.1 ∙ sym w.1.1)
  | inr w ↦ one_kept w.0 after after' said said' w.1 w.2
]

pub text_one : (p n s : ℕ) (d basis : List ℕ) (least : ℕ) (before : List ℕ) → One (λ after. BasisTextOutcome p n s d basis least before after)
unfolding BasisTextOutcome
text_one p n s d basis least before = text_one_of _ (basis_text p n s d basis least) before

pub refused_one : (k : ℕ) (before : List ℕ) → One (λ after. RefusalTextOutcome k before after)
unfolding RefusalTextOutcome
refused_one k before = text_one_of _ (refusal_text k) before

pub print_one : (file before : List ℕ) → One (λ after. PrintOutcome file before after)
unfolding PrintOutcome
print_one file before after after' said said' h h' =
    text_one_of _ h.0 before after after' said said' h.2 (rw (printed_unique file h.0 h'.0 h.1 h'.1) h'.2)
