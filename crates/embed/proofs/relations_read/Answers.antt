-- On an answer slice of the stated length the wrapped call's outcome is told.
use mathlib.Core.Path.{refl}
use Rattle.jobfile.specs.Answers.{job_says}
use Rattle.embed.proofs.Given.{given_result}
use Rattle.embed.proofs.relations_read.Goals as goal

pub returns : goal.returns
returns c =
    given_result job_says (λ x. refl) (λ e. refl) _ _ _ _ _ _ c.read_job.result c.if-answer-ne-ANSWER_LENGTH.false c.read_job.ensures c.tell.ensures
