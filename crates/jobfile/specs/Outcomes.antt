-- The outcomes of the reader and of the writer. A buffer that is written is lent as `lent-..` and left as `left-..`.
use Rattle.std.specs.Prelude.{◌≡◌, List, [], ◌∷◌, ℕ, length}
use Rattle.field.specs.Refusal.{Outcome}
use Rattle.field.specs.Answer.{Answer, result, refusal}
use Rattle.block.specs.File.{blocks_for}
use Rattle.words.specs.Lent.{over}
use Rattle.jobfile.specs.Job.{Job, Admitted, job_of}
use Rattle.jobfile.specs.Layout.{words_of, layout}
use Rattle.jobfile.specs.Orders.{reader_order, writer_order}

-- the file is the layout of an admitted job, which is answered: its type and series are written, and no other words
pub record JobRead (file lent-d lent-series : List ℕ) (said : Answer) (left-d left-series : List ℕ) : Type 0 where
  pub job : Job
  pub admitted : Admitted job
  pub laid_out : file ≡ layout job
  pub says : said ≡ result (job.p ∷ job.n ∷ job.s ∷ [])
  pub type_written : left-d ≡ over job.d lent-d
  pub series_written : left-series ≡ over job.series lent-series

unfoldable pub ReadOutcome : List ℕ → List ℕ → List ℕ → Answer → List ℕ → List ℕ → Type 0
ReadOutcome file lent-d lent-series said left-d left-series =
    Outcome (reader_order file (length lent-d) (length lent-series))
    (λ k. (said ≡ refusal k) × (left-d ≡ lent-d) × (left-series ≡ lent-series))
    (JobRead file lent-d lent-series said left-d left-series)

-- the job's layout is written, and no other bytes; the answer is its number of blocks
pub record JobWritten (j : Job) (lent : List ℕ) (said : Answer) (left : List ℕ) : Type 0 where
  pub says : said ≡ result (blocks_for (length (words_of j)) ∷ [])
  pub file_written : left ≡ over (layout j) lent

unfoldable pub WriteOutcome : ℕ → ℕ → ℕ → List ℕ → List ℕ → List ℕ → Answer → List ℕ → Type 0
WriteOutcome p n s d series lent said left =
    Outcome (writer_order p n s d series (length lent))
    (λ k. (said ≡ refusal k) × (left ≡ lent))
    (JobWritten (job_of p n s d series) lent said left)
