-- On an answer slice of the stated length the wrapped call's outcome is told.
use mathlib.Core.Path.{refl}
use Rattle.jobfile.specs.Answers.{write_says}
use Rattle.embed.proofs.Given.{given_result}
use Rattle.embed.proofs.relations_write.Goals as goal

pub returns : goal.returns
returns c =
    given_result write_says (λ x. refl) (λ e. refl) _ _ _ _ _ _ c.write_job.result c.if-answer-ne-ANSWER_LENGTH.false c.write_job.ensures c.tell.ensures
