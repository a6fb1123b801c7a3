-- On an answer slice of the stated length the wrapped call's outcome is told.
use mathlib.Core.Path.{refl}
use Rattle.embed.specs.Parsing.{parsed_says}
use Rattle.embed.proofs.Given.{given_result}
use Rattle.embed.proofs.relations_parse.Goals as goal

pub returns : goal.returns
returns c =
    given_result parsed_says (λ x. refl) (λ e. refl) _ _ _ _ _ _ c.parse.result c.if-answer-ne-ANSWER_LENGTH.false (record { parsed = c.parse.result; follows = c.parse.ensures; says = refl }) c.tell.ensures
