-- From the calls' outcomes to the printed text: an admitted job passes the tests of the basis call and of the text, and the words that the reader left are the job.
use mathlib.Core.Path.{◌≡◌, ap, sym, ◌∙◌, subst}
use mathlib.Core.Logic.{inl, inr, ⊎_elim}
use mathlib.Core.List.{List, [], ◌∷◌}
use Prim.Native.Nat.{ℕ, ◌+◌, ◌*◌, ◌≤◌}
use native.Mathlib.Omega.{arith}
use lib.ListN.{length, take}
use lib.Seq.{take_at}
use Rattle.field.specs.Refusal.{NoTest, First, Outcome}
use Rattle.field.specs.Answer.{Answer, result, refusal}
use Rattle.sizes.specs.Lengths.{basis_length}
use Rattle.sizes.specs.Entry.{EntryOutside}
use Rattle.sizes.specs.Orders.{sizes_order}
use Rattle.sizes.proofs.Entry.{outside_above}
use Rattle.sizes.proofs.Passed.{sizes_pass}
use Rattle.engine.specs.Orders.{buffers_order, basis_order}
use Rattle.std.proofs.Common.{Result, Ok, Err, IsOk, refl}
use Rattle.field.specs.declared.Refusal.{Refusal}
use Rattle.engine.specs.declared.BasisResult.{BasisResult}
use Rattle.engine.specs.Answers.{basis_says}
use Rattle.engine.specs.Basis.{BasisAnswered, BasisOutcome}
use Rattle.field.proofs.Outcome.{answer, none_both, no_result_refused}
use Rattle.field.proofs.Truth.{no_either, exact}
use Rattle.words.specs.Some.{Some}
use Rattle.jobfile.specs.Job.{Job, Admitted, job_of}
use Rattle.jobfile.specs.Layout.{layout}
use Rattle.jobfile.specs.Orders.{reader_order}
use Rattle.jobfile.specs.Outcomes.{JobRead, ReadOutcome}
use Rattle.report.specs.Text.{basis_text}
use Rattle.report.specs.Calls.{basis_text_order, refusal_text_order, TextOutcome, BasisTextOutcome}
use Rattle.jobreport.specs.Printed.{JobPrintOutcome}

module _ (j : Job) (ad : Admitted j) where
  pub passes : (words : ℕ) → words ≡ basis_length j.n j.s → NoTest (basis_order j.p j.n j.s j.d j.series words)
  unfolding NoTest
  passes words full =
      none_both (sizes_order j.p j.n j.s) (buffers_order j.p j.n j.s j.d j.series words)
      (sizes_pass ad.modulus ad.n_from ad.n_to ad.s_to)
      (exact full, (no_either (exact ad.type_length) (exact ad.series_length), (entries, (coefficients, tt))))
    where
      entries : ¬ (Some EntryOutside j.d)
      entries h = omega (arith, outside_above _ h.2, ad.entries h.0)

      coefficients : ¬ (Some (λ x. j.p ≤ x) j.series)
      coefficients h = omega (arith, h.2, ad.coefficients h.0)

  -- the text's sizes are those of the job, so that only the buffer's length is left to test
  text_order : (words : ℕ) (text before after : List ℕ) (said : Answer) → words ≡ basis_length j.n j.s
      → TextOutcome (basis_text_order j.n j.s (length j.d) words (length before)) text before after said
      → TextOutcome (refusal_text_order (length before)) text before after said
  unfolding Outcome NoTest First
  text_order words text before after said full (inl o) = inl ((λ h. o.0.1.1.0 (inr (inr h)), tt), o.1)
  text_order words text before after said full (inr (k, inl t, r)) = absurd (⊎_elim (λ h. omega (arith, ad.n_from)) (λ h. omega (arith, ad.n_to)) t.0)
  text_order words text before after said full (inr (k, inr (n2, inl t), r)) = absurd (omega (arith, t.0, ad.s_to))
  text_order words text before after said full (inr (k, inr (n2, inr (n3, inl (inl t, e))), r)) = absurd (t ad.type_length)
  text_order words text before after said full (inr (k, inr (n2, inr (n3, inl (inr (inl t), e))), r)) = absurd (t full)
  text_order words text before after said full (inr (k, inr (n2, inr (n3, inl (inr (inr t), e))), r)) = inr (k, inl (t, e), r)
  text_order words text before after said full (inr (k, inr (n2, inr (n3, inr (n4, t))), r)) = absurd t

  module _ (lent left : List ℕ) (full : length lent ≡ basis_length j.n j.s) (said : Answer)
      (worked : BasisOutcome j.p j.n j.s j.d j.series lent said left) where
    answered : BasisAnswered j.p j.n j.s j.d j.series left said
    unfolding BasisOutcome
    answered = answer _ _ _ worked (passes (length lent) full)

    pub answers : (r : Result BasisResult Refusal) → said ≡ basis_says r → IsOk r
    answers (Ok b) e = refl
    answers (Err f) e = absurd (no_result_refused (sym answered.says ∙ e))

    pub printed : (least count : ℕ) (before after : List ℕ) (wrote : Answer) → said ≡ result (least ∷ count ∷ [])
        → BasisTextOutcome j.p j.n j.s j.d left least before after wrote → JobPrintOutcome j before after wrote
    unfolding BasisTextOutcome JobPrintOutcome
    printed least count before after wrote e o =
        let a = answered in
        let q : result (least ∷ count ∷ []) ≡ result ((a.least + 1) ∷ a.count ∷ []) = sym e ∙ a.says in
        let r : least ≡ a.least + 1 = cc in (
          basis_text j.p j.n j.s j.d left least,
          record { basis = left; least = a.least; count = a.count; found = a.found; says = rw r },
          text_order (length left) (basis_text j.p j.n j.s j.d left least) before after wrote a.found.full o,
        )

module _ (file lent-d lent-series left-d left-series : List ℕ) (said : Answer) (read : ReadOutcome file lent-d lent-series said left-d left-series) where
  pub read_refused : (k : ℕ) → said ≡ refusal k → First (reader_order file (length lent-d) (length lent-series)) k
  unfolding ReadOutcome Outcome
  read_refused k e = elim read as (λ _. First (reader_order file (length lent-d) (length lent-series)) k) [
    | inl o ↦ absurd (no_result_refused (sym o.1.says ∙ e))
    | inr o ↦
        let q : refusal k ≡ refusal o.0 = sym e ∙ o.2.0 in
        let i : o.0 ≡ k = cc in
        subst (λ (x : ℕ). First (reader_order file (length lent-d) (length lent-series)) x) i o.1
  ]

  -- the job that was read, in the words that the reader left
  module _ (p n s : ℕ) (e : said ≡ result (p ∷ n ∷ s ∷ [])) where
    abbrev pub there : Job
    there = job_of p n s (take n left-d) (take (n * s) left-series)

    same_job : (o : JobRead file lent-d lent-series said left-d left-series) → o.job ≡ there
    same_job o =
        let j = o.job in
        let q : result (p ∷ n ∷ s ∷ []) ≡ result (j.p ∷ j.n ∷ j.s ∷ []) = sym e ∙ o.says in
        let qp : p ≡ j.p = cc in
        let qn : n ≡ j.n = cc in
        let qs : s ≡ j.s = cc in
        let qd : take n left-d ≡ j.d = rw o.type_written (take_at j.d _ n (o.admitted.type_length ∙ sym qn)) in
        let qf : take (n * s) left-series ≡ j.series = rw o.series_written (take_at j.series _ (n * s) (o.admitted.series_length ∙ sym (rw (qn, qs)))) in
        sym (rw (qp, qn, qs) (rw (← qn, ← qs) (rw (qd, qf))))

    pub read_job : Admitted there × (file ≡ layout there)
    unfolding ReadOutcome Outcome
    read_job = elim read as (λ _. Admitted there × (file ≡ layout there)) [
      | inl o ↦ (subst (λ (j : Job). Admitted j) (same_job o.1) o.1.admitted, o.1.laid_out ∙ ap layout (same_job o.1))
      | inr o ↦ absurd (no_result_refused (sym e ∙ o.2.0))
    ]
