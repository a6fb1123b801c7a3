-- On an answer slice of the stated length the wrapped call's outcome is told.
use mathlib.Core.Path.{refl}
use Rattle.field.specs.Calls.{residue_says}
use Rattle.embed.proofs.Given.{given_result}
use Rattle.embed.proofs.relations_multiply.Goals as goal

pub returns : goal.returns
returns c =
    given_result residue_says (λ x. refl) (λ e. refl) _ _ _ _ _ _ c.multiply.result c.if-answer-ne-ANSWER_LENGTH.false c.multiply.ensures c.tell.ensures
