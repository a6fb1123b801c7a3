-- On an answer slice of the stated length the wrapped call's outcome is told.
use mathlib.Core.Path.{refl}
use borrow.Author.Rules.{rules}
use Rattle.report.specs.Calls.{text_says}
use Rattle.embed.proofs.Given.{given_result}
use Rattle.embed.proofs.Text.{refusal_text_fits, fits_word}
use Rattle.embed.proofs.relations_refused.Goals as goal

pub tell-requires-clause-fits : goal.tell-requires-clause-fits
tell-requires-clause-fits c = fits_word c.write_refusal.result (refusal_text_fits _ _ _ c.write_refusal.result (search rules) c.write_refusal.ensures)

pub returns : goal.returns
returns c =
    given_result text_says (λ x. refl) (λ e. refl) _ _ _ _ _ _ c.write_refusal.result c.if-answer-ne-ANSWER_LENGTH.false c.write_refusal.ensures c.tell.ensures
