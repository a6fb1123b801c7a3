-- One file has one text: no second outcome meets the contract of `print_job`.
use mathlib.Core.Path.{◌≡◌, sym, ◌∙◌, subst}
use mathlib.Core.Logic.{inl, inr}
use mathlib.Core.List.{List}
use Prim.Native.Nat.{ℕ}
use lib.ListN.{length}
use Rattle.std.proofs.Common.{Result}
use Rattle.field.specs.declared.Refusal.{Refusal}
use Rattle.field.proofs.Outcome.{first_unique, first_or_none}
use Rattle.solve.proofs.Found.{found_unique}
use Rattle.jobfile.specs.Lengths.{type_words, series_words}
use Rattle.jobfile.specs.Job.{Job, Admitted}
use Rattle.jobfile.specs.Orders.{reader_order}
use Rattle.jobfile.proofs.LaidOut.{layout_passes}
use Rattle.jobfile.proofs.Theorems.{layout_injective}
use Rattle.report.specs.Calls.{text_says, refusal_text_order}
use Rattle.report.proofs.Calls.{text_unique}
use Rattle.jobreport.specs.Printed.{BasisText, BasisPrinted, RefusalPrinted, Printed, PrintOutcome}

-- the basis of an admitted job has one text
job_text : (j : Job) → Admitted j → (t t' : List ℕ) → BasisText j t → BasisText j t' → t ≡ t'
job_text j ad t t' a b =
    let same = found_unique ad.n_from a.found b.found in
    a.says ∙ rw (same.0, same.1) (sym b.says)

-- a laid_out job is not refused
not_both : (file t t' : List ℕ) → BasisPrinted file t → RefusalPrinted file t' → ⊥
not_both file t t' a b = first_or_none (reader_order file type_words series_words) b.number b.first (rw a.laid_out (layout_passes a.job a.admitted))

pub printed_unique : (file t t' : List ℕ) → Printed file t → Printed file t' → t ≡ t'
printed_unique file t t' (inl a) (inl b) =
    let e : a.job ≡ b.job = layout_injective a.job b.job a.admitted b.admitted (sym a.laid_out ∙ b.laid_out) in
    job_text b.job b.admitted t t' (subst (λ (j : Job). BasisText j t) e a.printed) b.printed
printed_unique file t t' (inl a) (inr b) = absurd (not_both file t t' a b)
printed_unique file t t' (inr a) (inl b) = absurd (not_both file t' t b a)
printed_unique file t t' (inr a) (inr b) =
    a.says ∙ rw (first_unique (reader_order file type_words series_words) a.number b.number a.first b.first) (sym b.says)

-- answer and buffer are determined
pub print_unique : (file before : List ℕ) (r r' : Result ℕ Refusal) (after after' : List ℕ)
    → PrintOutcome file before after (text_says r) → PrintOutcome file before after' (text_says r') → (r ≡ r') × (after ≡ after')
unfolding PrintOutcome
print_unique file before r r' after after' a b =
    let e : b.0 ≡ a.0 = printed_unique file b.0 a.0 b.1 a.1 in
    text_unique (refusal_text_order (length before)) a.0 before r r' after after' a.2 (rw e at b.2)
