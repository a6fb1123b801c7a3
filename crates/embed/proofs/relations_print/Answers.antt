-- On an answer slice of the stated length the wrapped call's outcome is told.
use mathlib.Core.Path.{refl}
use borrow.Author.Rules.{rules}
use Rattle.report.specs.Calls.{text_says}
use Rattle.embed.proofs.Given.{given_result}
use Rattle.embed.proofs.Text.{print_text_fits, fits_word}
use Rattle.embed.proofs.relations_print.Goals as goal

pub tell-requires-clause-fits : goal.tell-requires-clause-fits
tell-requires-clause-fits c = fits_word c.print_job.result (print_text_fits _ _ _ c.print_job.result (search rules) c.print_job.ensures)

pub returns : goal.returns
returns c =
    given_result text_says (λ x. refl) (λ e. refl) _ _ _ _ _ _ c.print_job.result c.if-answer-ne-ANSWER_LENGTH.false c.print_job.ensures c.tell.ensures
