-- On an answer slice of the stated length the wrapped call's outcome is told.
use mathlib.Core.Path.{refl}
use Rattle.engine.specs.Answers.{basis_says}
use Rattle.embed.proofs.Given.{given_result}
use Rattle.embed.proofs.relations_approximant.Goals as goal

pub returns : goal.returns
returns c =
    given_result basis_says (λ x. refl) (λ e. refl) _ _ _ _ _ _ c.approximant.result c.if-answer-ne-ANSWER_LENGTH.false c.approximant.ensures c.tell.ensures
