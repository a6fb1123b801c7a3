-- On an answer slice of the stated length the wrapped call's outcome is told.
use mathlib.Core.Path.{refl}
use borrow.Author.Rules.{rules}
use Rattle.report.specs.Calls.{text_says}
use Rattle.embed.proofs.Given.{given_result}
use Rattle.embed.proofs.Text.{basis_text_fits, fits_word}
use Rattle.embed.proofs.relations_text.Goals as goal

pub tell-requires-clause-fits : goal.tell-requires-clause-fits
tell-requires-clause-fits c = fits_word c.write_basis.result (basis_text_fits _ _ _ _ _ _ _ _ c.write_basis.result (search rules) c.write_basis.ensures)

pub returns : goal.returns
returns c =
    given_result text_says (λ x. refl) (λ e. refl) _ _ _ _ _ _ c.write_basis.result c.if-answer-ne-ANSWER_LENGTH.false c.write_basis.ensures c.tell.ensures
