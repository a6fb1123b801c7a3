-- What each case of the reader's and of the writer's answers says in document 01's terms.
use Rattle.std.specs.Prelude.{ℕ, [], ◌∷◌, Result, Ok, Err}
use Rattle.field.specs.Answer.{Answer, result, refusal}
use Rattle.field.specs.Number.{number_of}
use Rattle.field.specs.declared.Refusal.{Refusal}
use Rattle.sizes.specs.declared.JobSizes.{JobSizes}

-- p, n and s, or a refusal
abbrev pub job_says : Result JobSizes Refusal → Answer
job_says (Ok j) = result (j.p ∷ j.n ∷ j.s ∷ [])
job_says (Err e) = refusal (number_of e)

-- how many blocks, or a refusal
abbrev pub write_says : Result ℕ Refusal → Answer
write_says (Ok m) = result (m ∷ [])
write_says (Err e) = refusal (number_of e)
