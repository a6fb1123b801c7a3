-- What the contracts of the reader and of the writer come to.
--   reads_layouts, reads_only_layouts     a file is accepted exactly where it is the layout of an admitted job, and then that job is answered
--   layout_injective                      the layout tells admitted jobs apart
--   read_unique, write_unique             no second outcome meets a contract
--   written_read_back, read_written_back  what is written is read back to the same job, and what is read is written back to the same bytes
use mathlib.Core.Path.{◌≡◌, refl, ap, sym, subst, ◌∙◌}
use mathlib.Core.Logic.{inl, inr}
use mathlib.Core.List.{List, [], ◌∷◌}
use Prim.Native.Nat.{ℕ, ◌*◌}
use native.Mathlib.Omega.{arith}
use lib.ListN.{length, take}
use lib.Seq.{take_at}
use Rattle.std.proofs.Common.{Result, Ok, Err}
use Rattle.field.specs.declared.Refusal.{Refusal}
use Rattle.field.specs.Refusal.{NoTest, Outcome}
use Rattle.field.proofs.Numbered.{same_number}
use Rattle.field.specs.Answer.{Answer, result}
use Rattle.field.proofs.Outcome.{same_outcome, none_both, answer, no_result_refused}
use Rattle.sizes.specs.declared.JobSizes.{JobSizes}
use Rattle.block.specs.File.{blocks_for}
use Rattle.block.specs.Part.{blocks_in}
use Rattle.words.specs.Lent.{over}
use Rattle.words.proofs.Over.{first_over}
use Rattle.jobfile.specs.Lengths.{type_words, series_words, file_bytes}
use Rattle.jobfile.specs.Job.{Job, Admitted, job_of}
use Rattle.jobfile.specs.Layout.{words_of, layout}
use Rattle.jobfile.specs.Payload.{job_in}
use Rattle.sizes.specs.Orders.{sizes_order}
use Rattle.sizes.proofs.Entry.{none_outside}
use Rattle.jobfile.specs.Orders.{reader_order, buffer_tests, writer_order}
use Rattle.jobfile.specs.Answers.{job_says, write_says}
use Rattle.jobfile.specs.Outcomes.{JobRead, ReadOutcome, JobWritten, WriteOutcome}
use Rattle.field.proofs.Truth.{no_either, exact}
use Rattle.jobfile.proofs.Passed.{writer_passed}
use Rattle.jobfile.proofs.LaidOut.{length_words, length_layout, blocks_layout, job_layout, layout_sizes, layout_passes}

pub layout_injective : (i j : Job) → Admitted i → Admitted j → layout i ≡ layout j → i ≡ j
layout_injective i j a b e = sym (job_layout i a) ∙ ap job_in e ∙ job_layout j b

same_sizes : (j j' : JobSizes) → j.p ≡ j'.p → j.n ≡ j'.n → j.s ≡ j'.s → j ≡ j'
same_sizes j j' p n s = λ i. record { p = p i; n = n i; s = s i }

-- what the answers say tells them apart
job_told : (r r' : Result JobSizes Refusal) → job_says r ≡ job_says r' → r ≡ r'
job_told (Ok j) (Ok j') e = ap Ok (same_sizes j j' (cc) (cc) (cc))
job_told (Ok j) (Err f) e = cc
job_told (Err f) (Ok j) e = cc
job_told (Err f) (Err g) e = ap Err (same_number f g (cc))

write_told : (r r' : Result ℕ Refusal) → write_says r ≡ write_says r' → r ≡ r'
write_told (Ok m) (Ok m') e = cc
write_told (Ok m) (Err f) e = cc
write_told (Err f) (Ok m) e = cc
write_told (Err f) (Err g) e = ap Err (same_number f g (cc))

-- what is said and written of a job, by any name of it
of_job : {file d series : List ℕ} {said : Answer} {d' series' : List ℕ} (r : JobRead file d series said d' series') (j : Job) → r.job ≡ j
    → (said ≡ result (j.p ∷ j.n ∷ j.s ∷ [])) × (d' ≡ over j.d d) × (series' ≡ over j.series series)
of_job {file} {d} {series} r j e = (
  r.says ∙ ap (λ (i : Job). result (i.p ∷ i.n ∷ i.s ∷ [])) e,
  r.type_written ∙ ap (λ (i : Job). over i.d d) e,
  r.series_written ∙ ap (λ (i : Job). over i.series series) e,
)

-- the reader, lent `file`, `d` and `series`, said `said` and left `d'` and `series'`
module _ (file d series : List ℕ) (said : Answer) (d' series' : List ℕ) (o : ReadOutcome file d series said d' series') where
  -- the layout of an admitted job is accepted, and that job is answered
  pub reads_layouts : length d ≡ type_words → length series ≡ series_words → (j : Job) → Admitted j → file ≡ layout j
      → (said ≡ result (j.p ∷ j.n ∷ j.s ∷ [])) × (d' ≡ over j.d d) × (series' ≡ over j.series series)
  unfolding ReadOutcome
  reads_layouts ld ls j a e =
      let none : NoTest (reader_order file (length d) (length series)) = rw (ld, ls, e) (layout_passes j a) in
      let r = answer _ _ _ o none in
      of_job r j (layout_injective r.job j r.admitted a (sym r.laid_out ∙ e))

  -- and nothing else is
  pub reads_only_layouts : (l : List ℕ) → said ≡ result l → JobRead file d series said d' series'
  unfolding ReadOutcome Outcome
  reads_only_layouts l e = elim o [ inl a ↦ a.1 | inr b ↦ absurd (no_result_refused (sym e ∙ b.2.0)) ]

same_read : {file d series : List ℕ} {said said' : Answer} {d₁ series₁ d₂ series₂ : List ℕ}
    → JobRead file d series said d₁ series₁ → JobRead file d series said' d₂ series₂ → (said ≡ said') × (d₁ ≡ d₂) × (series₁ ≡ series₂)
same_read r r' =
    let q = of_job r r'.job (layout_injective r.job r'.job r.admitted r'.admitted (sym r.laid_out ∙ r'.laid_out)) in
    (q.0 ∙ sym r'.says, q.1 ∙ sym r'.type_written, q.2 ∙ sym r'.series_written)

pub read_unique : (file d series : List ℕ) (r r' : Result JobSizes Refusal) (d₁ series₁ d₂ series₂ : List ℕ)
    → ReadOutcome file d series (job_says r) d₁ series₁ → ReadOutcome file d series (job_says r') d₂ series₂
    → (r ≡ r') × (d₁ ≡ d₂) × (series₁ ≡ series₂)
unfolding ReadOutcome
read_unique file d series r r' d₁ series₁ d₂ series₂ h h' = elim (same_outcome _ _ _ _ _ h h') [
  | inl w ↦ let q = same_read w.0 w.1 in (job_told r r' q.0, q.1, q.2)
  | inr w ↦ (job_told r r' (w.1.0 ∙ sym w.2.0), w.1.1 ∙ sym w.2.1, w.1.2 ∙ sym w.2.2)
]

pub write_unique : (p n s : ℕ) (d series out : List ℕ) (r r' : Result ℕ Refusal) (out₁ out₂ : List ℕ)
    → WriteOutcome p n s d series out (write_says r) out₁ → WriteOutcome p n s d series out (write_says r') out₂ → (r ≡ r') × (out₁ ≡ out₂)
unfolding WriteOutcome
write_unique p n s d series out r r' out₁ out₂ h h' = elim (same_outcome _ _ _ _ _ h h') [
  | inl w ↦ (write_told r r' (w.0.says ∙ sym w.1.says), w.0.file_written ∙ sym w.1.file_written)
  | inr w ↦ (write_told r r' (w.1.0 ∙ sym w.2.0), w.1.1 ∙ sym w.2.1)
]

-- no test of the writer holds of an admitted job
pub writer_passes : (p n s : ℕ) (d series : List ℕ) → Admitted (job_of p n s d series) → (out : ℕ) → out ≡ file_bytes
    → NoTest (writer_order p n s d series out)
unfolding NoTest
writer_passes p n s d series a out e =
    none_both (sizes_order p n s) (buffer_tests p n s d series out) (layout_sizes (job_of p n s d series) a) (
      exact e,
      (no_either (exact a.type_length) (exact a.series_length), (none_outside d a.entries, ((λ f. omega (arith, f.2, a.coefficients f.0)), tt))),
    )

-- the writer said `said` and left `out'`
module _ (p n s : ℕ) (d series out : List ℕ) (said : Answer) (out' : List ℕ) (o : WriteOutcome p n s d series out said out') where
  -- what is written is the layout of an admitted job
  pub writes_layouts : (m : ℕ) → said ≡ result (m ∷ []) → Admitted (job_of p n s d series) × (take (512 * m) out' ≡ layout (job_of p n s d series))
  unfolding WriteOutcome Outcome
  writes_layouts m e = elim o [
    | inl a ↦
        let j = job_of p n s d series in
        let ok = (writer_passed p n s d series (length out) a.0).0 in
        let w = a.1 in
        let is : m ≡ blocks_for (length (words_of j)) = told (sym e ∙ w.says) in
        let full : length (layout j) ≡ 512 * m = length_layout j ok ∙ ap (λ (k : ℕ). 512 * k) (ap blocks_for (sym (length_words j ok)) ∙ sym is) in
        (ok, ap (take (512 * m)) w.file_written ∙ take_at (layout j) _ (512 * m) full)
    | inr b ↦ absurd (no_result_refused (sym e ∙ b.2.0))
  ]
    where
      told : {x y : ℕ} → result (x ∷ []) ≡ result (y ∷ []) → x ≡ y
      told q = cc

  -- an admitted job is written
  pub writes_admitted : Admitted (job_of p n s d series) → length out ≡ file_bytes → JobWritten (job_of p n s d series) out said out'
  unfolding WriteOutcome
  writes_admitted a l = answer _ _ _ o (writer_passes p n s d series a (length out) l)

  -- what is written is read back to the same job
  pub written_read_back : (m : ℕ) → said ≡ result (m ∷ []) → (ld lf : List ℕ) (read : Answer) (ld' lf' : List ℕ) → length ld ≡ type_words → length lf ≡ series_words
      → ReadOutcome (take (512 * m) out') ld lf read ld' lf'
      → (read ≡ result (p ∷ n ∷ s ∷ [])) × (ld' ≡ over d ld) × (lf' ≡ over series lf)
  written_read_back m e ld lf read ld' lf' hd hf r =
      let w = writes_layouts m e in
      reads_layouts (take (512 * m) out') ld lf read ld' lf' r hd hf (job_of p n s d series) w.0 w.1

same_job : (j : Job) (p n s : ℕ) (d series : List ℕ) → p ≡ j.p → n ≡ j.n → s ≡ j.s → d ≡ j.d → series ≡ j.series → job_of p n s d series ≡ j
same_job j p n s d series ep en es ed ef = λ i. record { p = ep i; n = en i; s = es i; d = ed i; series = ef i }

-- a file that is read is written back to the same bytes
pub read_written_back : (file ld lf ld' lf' : List ℕ) (p n s : ℕ) → ReadOutcome file ld lf (result (p ∷ n ∷ s ∷ [])) ld' lf'
    → (out : List ℕ) (said : Answer) (out' : List ℕ) → length out ≡ file_bytes
    → WriteOutcome p n s (take n ld') (take (n * s) lf') out said out'
    → (said ≡ result (blocks_in file ∷ [])) × (out' ≡ over file out)
read_written_back file ld lf ld' lf' p n s o out said out' l w =
    let r = reads_only_layouts file ld lf _ ld' lf' o _ refl in
    let j = r.job in
    let a = r.admitted in
    let ep : p ≡ j.p = cc r.says in
    let en : n ≡ j.n = cc r.says in
    let es : s ≡ j.s = cc r.says in
    let ed = first_over j.d ld n ld' (a.type_length ∙ sym en) r.type_written in
    let ef = first_over j.series lf (n * s) lf' (a.series_length ∙ cc (en, es)) r.series_written in
    let same : job_of p n s (take n ld') (take (n * s) lf') ≡ j = same_job j p n s _ _ ep en es ed ef in
    let written = writes_admitted p n s _ _ out said out' w (subst (λ (i : Job). Admitted i) (sym same) a) l in
    let blocks : blocks_for (length (words_of j)) ≡ blocks_in file =
    ap blocks_for (length_words j a) ∙ sym (blocks_layout j a) ∙ ap blocks_in (sym r.laid_out) in (
      written.says ∙ ap (λ (i : Job). result (blocks_for (length (words_of i)) ∷ [])) same ∙ ap (λ (m : ℕ). result (m ∷ [])) blocks,
      written.file_written ∙ ap (λ (i : Job). over (layout i) out) same ∙ ap (λ (f : List ℕ). over f out) (sym r.laid_out),
    )
