-- For each exported call: no second end meets its contract, for the same arguments and the same lent buffers.
use mathlib.Core.Path.{◌≡◌, refl, ap, sym, ◌∙◌}
use mathlib.Core.Logic.{inl, inr}
use mathlib.Core.List.{List}
use Prim.Native.Nat.{ℕ, ◌+◌, ◌*◌}
use Rattle.field.specs.Answer.{Answer}
use Rattle.field.specs.Calls.{MakeOutcome, AddOutcome, MultiplyOutcome, InvertOutcome}
use Rattle.field.proofs.Outcome.{same_outcome}
use Rattle.engine.specs.Basis.{BasisOutcome}
use Rattle.engine.specs.Approximant.{ApproximantOutcome}
use Rattle.sets.specs.Bases.{BasesOutcome}
use Rattle.pade.specs.Pair.{PairOutcome}
use Rattle.jobfile.specs.Outcomes.{ReadOutcome, WriteOutcome}
use Rattle.report.specs.Calls.{BasisTextOutcome, RefusalTextOutcome}
use Rattle.jobreport.specs.Printed.{PrintOutcome}
use Rattle.jobtext.specs.Job.{job_of_text}
use Rattle.embed.specs.Status.{status_of, words_left}
use Rattle.embed.specs.Lengths.{residue_answer_length, count_answer_length, basis_answer_length, row_answer_length, job_answer_length}
use Rattle.embed.specs.Given.{Told, Given, answer_order}
use Rattle.embed.specs.RowAt.{RowSaid}
use Rattle.embed.specs.Parsing.{fault_line, ParseOutcome}
use Rattle.embed.proofs.Unique.{One, NoBuffers, make_one, residue_one, invert_one, basis_one, approximant_one, bases_one, pair_one, row_one, read_one, write_one, parse_one, text_one, refused_one, print_one}

-- how a call ends: its status, and what its buffers hold
pub record End (B : Type 0) : Type 0 where
  pub status : ℕ
  pub buffers : B

-- the same for a call with an answer buffer, which is kept apart
pub record AnswerEnd (B : Type 0) : Type 0 where
  pub status : ℕ
  pub answer : List ℕ
  pub buffers : B

-- two ends that meet the contract are one
abbrev pub Determined : {E : Type 0} → (E → Type 0) → Type 0
Determined {E} Meets = (e e' : E) → Meets e → Meets e' → e ≡ e'

module _ {B : Type 0} (W : B → Answer → Type 0) (one : One W) where
  told_determined : Determined (λ (e : End B). Told (W e.buffers) e.status)
  told_determined e e' t t' =
      let q = one e.buffers e'.buffers t.said t'.said t.outcome t'.outcome in
      let status = t.status_word ∙ ap status_of q.0 ∙ sym t'.status_word in
      λ i. record { status = status i; buffers = q.1 i }

  given_determined : (size : ℕ) (Kept : B → Type 0) (lent : List ℕ) → ((b b' : B) → Kept b → Kept b' → b ≡ b')
      → Determined
      (λ (e : AnswerEnd B). Given size (W e.buffers) (Kept e.buffers) lent e.status e.answer)
  unfolding Given
  given_determined size Kept lent kept e e' h h' = elim (same_outcome (answer_order size lent) _ _ _ _ h h') [
    | inl w ↦
        let q = one e.buffers e'.buffers w.0.said w.1.said w.0.outcome w.1.outcome in
        let status = w.0.status_word ∙ ap status_of q.0 ∙ sym w.1.status_word in
        let answer = w.0.answer_written ∙ ap (λ (a : Answer). words_left a lent) q.0 ∙ sym w.1.answer_written in
        λ i. record { status = status i; answer = answer i; buffers = q.1 i }
    | inr w ↦
        let status = w.1.0 ∙ sym w.2.0 in
        let answer = w.1.1 ∙ sym w.2.1 in
        let buffers = kept e.buffers e'.buffers w.1.2 w.2.2 in
        λ i. record { status = status i; answer = answer i; buffers = buffers i }
  ]

-- buffers that are as lent: none, one and two
none_lent : {Kept : Type 0} (b b' : NoBuffers) → Kept → Kept → b ≡ b'
none_lent b b' k k' = refl

one_lent : (lent b b' : List ℕ) → b ≡ lent → b' ≡ lent → b ≡ b'
one_lent lent b b' k k' = k ∙ sym k'

two_lent : (lent lent' : List ℕ) (b b' : List ℕ × List ℕ) → (b.0 ≡ lent) × (b.1 ≡ lent') → (b'.0 ≡ lent) × (b'.1 ≡ lent') → b ≡ b'
two_lent lent lent' b b' k k' =
    let first = k.0 ∙ sym k'.0 in
    let second = k.1 ∙ sym k'.1 in
    λ i. (first i, second i)

pub modulus_determined : (p : ℕ) → Determined (λ (e : End NoBuffers). Told (MakeOutcome p) e.status)
modulus_determined p = told_determined _ (make_one p)

-- the calls with an answer buffer, which is lent as `lent`
module _ (lent : List ℕ) where
  pub add_determined : (p a b : ℕ) → Determined
      (λ (e : AnswerEnd NoBuffers). Given residue_answer_length (AddOutcome p a b) Unit lent e.status e.answer)
  add_determined p a b = given_determined _ (residue_one p a b (a + b)) _ _ lent none_lent

  pub multiply_determined : (p a b : ℕ) → Determined
      (λ (e : AnswerEnd NoBuffers). Given residue_answer_length (MultiplyOutcome p a b) Unit lent e.status e.answer)
  multiply_determined p a b = given_determined _ (residue_one p a b (a * b)) _ _ lent none_lent

  pub invert_determined : (p a : ℕ) → Determined
      (λ (e : AnswerEnd NoBuffers). Given residue_answer_length (InvertOutcome p a) Unit lent e.status e.answer)
  invert_determined p a = given_determined _ (invert_one p a) _ _ lent none_lent

  pub basis_determined : (p n s : ℕ) (d F basis : List ℕ)
      → Determined
      (λ (e : AnswerEnd (List ℕ)). Given basis_answer_length (λ said. BasisOutcome p n s d F basis said e.buffers) (e.buffers ≡ basis) lent e.status e.answer)
  basis_determined p n s d F basis = given_determined _ (basis_one p n s d F basis) _ _ lent (one_lent basis)

  pub approximant_determined : (p n : ℕ) (d F basis : List ℕ)
      → Determined
      (λ (e : AnswerEnd (List ℕ)). Given basis_answer_length (λ said. ApproximantOutcome p n d F basis said e.buffers) (e.buffers ≡ basis) lent e.status e.answer)
  approximant_determined p n d F basis = given_determined _ (approximant_one p n d F basis) _ _ lent (one_lent basis)

  pub row_determined : (n s i : ℕ) (basis : List ℕ) → Determined
      (λ (e : AnswerEnd NoBuffers). Given row_answer_length (RowSaid basis n s i) Unit lent e.status e.answer)
  row_determined n s i basis = given_determined _ (row_one basis n s i) _ _ lent none_lent

  pub read_determined : (file d F : List ℕ)
      → Determined
      (λ (e : AnswerEnd (List ℕ × List ℕ)). Given job_answer_length (λ said. ReadOutcome file d F said e.buffers.0 e.buffers.1) ((e.buffers.0 ≡ d) × (e.buffers.1 ≡ F)) lent e.status e.answer)
  read_determined file d F = given_determined _ (read_one file d F) _ _ lent (two_lent d F)

  pub write_determined : (p n s : ℕ) (d F file : List ℕ)
      → Determined
      (λ (e : AnswerEnd (List ℕ)). Given count_answer_length (λ said. WriteOutcome p n s d F file said e.buffers) (e.buffers ≡ file) lent e.status e.answer)
  write_determined p n s d F file = given_determined _ (write_one p n s d F file) _ _ lent (one_lent file)

  pub text_determined : (p n s : ℕ) (d basis : List ℕ) (least : ℕ) (text : List ℕ)
      → Determined
      (λ (e : AnswerEnd (List ℕ)). Given count_answer_length (BasisTextOutcome p n s d basis least text e.buffers) (e.buffers ≡ text) lent e.status e.answer)
  text_determined p n s d basis least text = given_determined _ (text_one p n s d basis least text) _ _ lent (one_lent text)

  pub refused_determined : (number : ℕ) (text : List ℕ)
      → Determined
      (λ (e : AnswerEnd (List ℕ)). Given count_answer_length (RefusalTextOutcome number text e.buffers) (e.buffers ≡ text) lent e.status e.answer)
  refused_determined number text = given_determined _ (refused_one number text) _ _ lent (one_lent text)

  pub print_determined : (file text : List ℕ)
      → Determined
      (λ (e : AnswerEnd (List ℕ)). Given count_answer_length (PrintOutcome file text e.buffers) (e.buffers ≡ text) lent e.status e.answer)
  print_determined file text = given_determined _ (print_one file text) _ _ lent (one_lent text)

  pub parse_determined : (text d F : List ℕ)
      → Determined
      (λ (e : AnswerEnd (List ℕ × List ℕ)). Given job_answer_length (ParseOutcome text d F e.buffers.0 e.buffers.1) ((e.buffers.0 ≡ d) × (e.buffers.1 ≡ F)) lent e.status e.answer)
  parse_determined text d F = given_determined _ (parse_one text d F) _ _ lent (two_lent d F)

pub bases_determined : (p n s sets : ℕ) (d F bases answers : List ℕ)
    → Determined (λ (e : End (List ℕ × List ℕ)). Told (λ said. BasesOutcome p n s sets d F bases answers said e.buffers.0 e.buffers.1) e.status)
bases_determined p n s sets d F bases answers = told_determined _ (bases_one p n s sets d F bases answers)

pub pair_determined : (p k : ℕ) (g r t : List ℕ)
    → Determined (λ (e : End (List ℕ × List ℕ)). Told (λ said. PairOutcome p k g r t said e.buffers.0 e.buffers.1) e.status)
pair_determined p k g r t = told_determined _ (pair_one p k g r t)

pub parse_line_determined : (text : List ℕ) → Determined (λ (line : ℕ). line ≡ fault_line (job_of_text text))
parse_line_determined text line line' h h' = h ∙ sym h'
