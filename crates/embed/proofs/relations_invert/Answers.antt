-- On an answer slice of the stated length the wrapped call's outcome is told.
use mathlib.Core.Path.{refl, sym, ◌∙◌}
use mathlib.Core.List.{[], ◌∷◌}
use Rattle.field.specs.Answer.{no_inverse}
use Rattle.field.specs.Number.{number_of}
use Rattle.embed.specs.Says.{says}
use Rattle.embed.proofs.Given.{given}
use Rattle.embed.proofs.Inverse.{inverse_some, inverse_none}
use Rattle.embed.proofs.relations_invert.Goals as goal

pub returns-in-Some : goal.returns-in-Some
returns-in-Some c =
    given _ _ _ _ _ _ (says (λ x. x ∷ []) number_of c.in-Some.said) c.if-answer-ne-ANSWER_LENGTH.false (inverse_some c.args.p c.args.a c.invert.result c.in-Some.said (sym c.transpose.ensures ∙ c.in-Some.is) c.invert.ensures) c.tell.ensures

pub returns-in-None : goal.returns-in-None
returns-in-None c =
    given _ _ _ _ _ _ no_inverse c.if-answer-ne-ANSWER_LENGTH.false (inverse_none c.args.p c.args.a c.invert.result (sym c.transpose.ensures ∙ c.in-None.is) c.invert.ensures) (refl, refl)
