-- Printed: the text that the program `relations` prints for a job file: the basis of the job, or `refused` and the reader's number.
use Rattle.std.specs.Prelude.{◌≡◌, ◌⊎◌, List, ℕ, ◌+◌, length}
use Rattle.field.specs.Refusal.{First}
use Rattle.field.specs.Answer.{Answer}
use Rattle.solve.specs.Found.{BasisFound}
use Rattle.jobfile.specs.Lengths.{type_words, series_words}
use Rattle.jobfile.specs.Job.{Job, Admitted}
use Rattle.jobfile.specs.Layout.{layout}
use Rattle.jobfile.specs.Orders.{reader_order}
use Rattle.report.specs.Text.{basis_text, refusal_text}
use Rattle.report.specs.Calls.{refusal_text_order, TextOutcome}

-- the text of a job's basis
pub record BasisText (job : Job) (text : List ℕ) : Type 0 where
  pub basis : List ℕ
  pub least : ℕ
  pub count : ℕ
  pub found : BasisFound job.p job.n job.s job.d job.series basis least count
  pub says : text ≡ basis_text job.p job.n job.s job.d basis (least + 1)

-- the file is the layout of an admitted job, and the text is that of its basis
pub record BasisPrinted (file text : List ℕ) : Type 0 where
  pub job : Job
  pub admitted : Admitted job
  pub laid_out : file ≡ layout job
  pub printed : BasisText job text

-- the reader, lent words for the type and for the series, refuses the file
pub record RefusalPrinted (file text : List ℕ) : Type 0 where
  pub number : ℕ
  pub first : First (reader_order file type_words series_words) number
  pub says : text ≡ refusal_text number

abbrev pub Printed : List ℕ → List ℕ → Type 0
Printed file text = BasisPrinted file text ⊎ RefusalPrinted file text

-- the text stands in the first bytes of the buffer, and its length is answered; a buffer of another length is refused by 4 and stays as lent
unfoldable pub PrintOutcome : List ℕ → List ℕ → List ℕ → Answer → Type 0
PrintOutcome file before after said = (text : List ℕ) × Printed file text × TextOutcome (refusal_text_order (length before)) text before after said

-- the same for a job that was read
unfoldable pub JobPrintOutcome : Job → List ℕ → List ℕ → Answer → Type 0
JobPrintOutcome job before after said = (text : List ℕ) × BasisText job text × TextOutcome (refusal_text_order (length before)) text before after said
