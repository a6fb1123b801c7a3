-- The parser of the text job for a program outside: the number of each slip, and the line of the first.
use Rattle.std.specs.Prelude.{◌≡◌, List, [], ◌∷◌, ℕ, Result, Ok, Err}
use Rattle.field.specs.Answer.{Answer, result, refusal}
use Rattle.sizes.specs.declared.JobSizes.{JobSizes}
use Rattle.jobtext.specs.declared.Fault.{Fault}
use Rattle.jobtext.specs.declared.Slip.{Slip}
use Rattle.jobtext.specs.Job.{JobText, job, wrong, job_of_text}
use Rattle.jobtext.specs.Reading.{Follows}

-- document 01's numbers; a slip of the text itself has none there, and is 257 to 260
abbrev pub slip_number : Slip → ℕ
slip_number Slip.Modulus = 1
slip_number Slip.Count = 2
slip_number Slip.Order = 3
slip_number Slip.Entry = 5
slip_number Slip.Coefficient = 6
slip_number Slip.NotNumber = 257
slip_number Slip.TooLarge = 258
slip_number Slip.EndsEarly = 259
slip_number Slip.TooMany = 260

abbrev pub parsed_says : Result JobSizes Fault → Answer
parsed_says (Ok sizes) = result (sizes.p ∷ sizes.n ∷ sizes.s ∷ [])
parsed_says (Err fault) = refusal (slip_number fault.slip)

-- the line of what is wrong, and 0 for a job
abbrev pub fault_line : JobText → ℕ
fault_line (job p n s d f) = 0
fault_line (wrong slip line) = line

-- type and series are lent as `d` and `series` and left as `d'` and `series'`
pub record ParseOutcome (text d series d' series' : List ℕ) (said : Answer) : Type 0 where
  pub parsed : Result JobSizes Fault
  pub follows : Follows (job_of_text text) parsed d d' series series'
  pub says : said ≡ parsed_says parsed
