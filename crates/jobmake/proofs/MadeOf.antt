-- From what the parser and the writer leave to what is made of the text, and that no second outcome meets the contract.
use mathlib.Core.Path.{◌≡◌, refl, ap, sym, ◌∙◌}
use mathlib.Core.List.{List, [], ◌∷◌}
use Prim.Native.Nat.{ℕ, ◌*◌, ◌≤◌}
use native.Mathlib.Omega.{arith}
use lib.ListN.{length, take, drop, length-append}
use lib.Seq.{take_at}
use Rattle.std.specs.Prelude.{Result, Ok, Err}
use Rattle.field.specs.Answer.{result}
use Rattle.block.specs.File.{blocks_for}
use Rattle.jobfile.specs.Job.{Job, Admitted, job_of}
use Rattle.jobfile.specs.Layout.{words_of, layout}
use Rattle.words.specs.Lent.{over}
use Rattle.jobfile.proofs.LaidOut.{length_words, length_layout}
use Rattle.sizes.specs.declared.JobSizes.{JobSizes}
use Rattle.jobtext.specs.declared.Slip.{Slip}
use Rattle.jobtext.specs.declared.Fault.{Fault}
use Rattle.jobtext.specs.Job.{JobText, job, wrong}
use Rattle.jobtext.specs.Message.{message}
use Rattle.jobtext.specs.Reading.{Follows}
use Rattle.jobmake.specs.declared.Message.{Message}
use Rattle.jobmake.specs.MadeOf.{MadeOf}
use Rattle.jobmake.proofs.Admitted.{Right}

-- the writer's blocks are the layout's bytes
pub laid_out : (j : Job) → Admitted j → (m : ℕ) → result (m ∷ []) ≡ result (blocks_for (length (words_of j)) ∷ []) → m * 512 ≡ length (layout j)
laid_out j ad m e =
    let blocks : m ≡ blocks_for (length (words_of j)) = cc in
    omega (arith, blocks, length_layout j ad, ap blocks_for (length_words j ad))

-- the job that was parsed, in the words that the parser left
pub record Read (j : JobText) (p n s : ℕ) (types series : List ℕ) : Type 0 where
  pub same : j ≡ job p n s (take n types) (take (n * s) series)
  pub admitted : Admitted (job_of p n s (take n types) (take (n * s) series))

pub parsed_job : (j : JobText) (r : Result JobSizes Fault) (types types' series series' : List ℕ) → Right j → Follows j r types types' series series'
    → (q : JobSizes) → r ≡ Ok q → Read j q.p q.n q.s types' series'
unfolding Right Follows
parsed_job (job p₁ n₁ s₁ d f) r types types' series series' ad h q e =
    let same : Ok q ≡ Ok (record { p = p₁; n = n₁; s = s₁ }) = sym e ∙ h.0 in
    let is : q ≡ record { p = p₁; n = n₁; s = s₁ } = cc in
    let qp : q.p ≡ p₁ = ap (λ (z : JobSizes). z.p) is in
    let qn : q.n ≡ n₁ = ap (λ (z : JobSizes). z.n) is in
    let qs : q.s ≡ s₁ = ap (λ (z : JobSizes). z.s) is in
    let qd : take q.n types' ≡ d = rw h.1 (take_at d _ q.n (ad.type_length ∙ sym qn)) in
    let qf : take (q.n * q.s) series' ≡ f = rw h.2 (take_at f _ (q.n * q.s) (ad.series_length ∙ sym (rw (qn, qs)))) in
    record { same = sym (rw (qd, qf) (rw (qp, qn, qs))); admitted = rw (qd, qf) (rw (qp, qn, qs) ad) }
parsed_job (wrong slip l) r types types' series series' ad h q e =
    let z = sym e ∙ h.0 in
    cc

pub parsed_wrong : (j : JobText) (r : Result JobSizes Fault) (types types' series series' : List ℕ) → Follows j r types types' series series'
    → (e : Fault) → r ≡ Err e → j ≡ wrong e.slip e.line
unfolding Follows
parsed_wrong (job p n s d f) r types types' series series' h e q =
    let z = sym q ∙ h.0 in
    cc
parsed_wrong (wrong slip l) r types types' series series' h e q =
    let z = sym q ∙ h.0 in
    let is : e ≡ record { slip = slip; line = l } = cc in
    rw is refl

module _ (j : JobText) (k : ℕ) (file words left : List ℕ) where
  pub made_file : (p n s : ℕ) (d f : List ℕ) → j ≡ job p n s d f → k ≡ length (layout (job_of p n s d f)) → left ≡ over (layout (job_of p n s d f)) file
      → MadeOf j (Ok k) file left words words
  unfolding MadeOf
  made_file p n s d f e l w = rw e (ap Ok l, w, refl)

  pub made_message : (slip : Slip) (l : ℕ) → j ≡ wrong slip l → k ≡ length (message slip l) → left ≡ over (message slip l) words
      → MadeOf j (Err (record { length = k })) file file words left
  unfolding MadeOf
  made_message slip l e c w = rw e (ap (λ (m : ℕ). Err (record { length = m })) c, w, refl)

-- what stands in front lies in its buffer
over_inside : (bytes lent : List ℕ) (k : ℕ) → k ≡ length bytes → k ≤ length (over bytes lent)
over_inside bytes lent k e = omega (arith, length-append bytes (drop (length bytes) lent))

pub made_inside : (j : JobText) (r : Result ℕ Message) (file file' words words' : List ℕ) → MadeOf j r file file' words words'
    → ((k : ℕ) → r ≡ Ok k → k ≤ length file') × ((m : Message) → r ≡ Err m → m.length ≤ length words')
unfolding MadeOf
made_inside (job p n s d f) r file file' words words' h = (
  λ k e. let c : k ≡ length (layout (job_of p n s d f)) = cc in rw h.1 (over_inside (layout (job_of p n s d f)) file k c),
  λ m e. cc,
)
made_inside (wrong slip l) r file file' words words' h = (
  λ k e. cc,
  λ m e. let c : m ≡ record { length = length (message slip l) } = cc in rw h.1 (over_inside (message slip l) words m.length (ap (λ (x : Message). x.length) c)),
)

-- answer and buffers are determined
pub made_unique : (j : JobText) (file words : List ℕ) (r r' : Result ℕ Message) (file₁ words₁ file₂ words₂ : List ℕ)
    → MadeOf j r file file₁ words words₁ → MadeOf j r' file file₂ words words₂ → (r ≡ r') × (file₁ ≡ file₂) × (words₁ ≡ words₂)
unfolding MadeOf
made_unique (job p n s d f) file words r r' file₁ words₁ file₂ words₂ h g = (h.0 ∙ sym g.0, h.1 ∙ sym g.1, h.2 ∙ sym g.2)
made_unique (wrong slip l) file words r r' file₁ words₁ file₂ words₂ h g = (h.0 ∙ sym g.0, h.2 ∙ sym g.2, h.1 ∙ sym g.1)
