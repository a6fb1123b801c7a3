-- `take_word` meets its contract: past what is no word, the word up to its end.
use mathlib.Core.Path.{◌∙◌}
use native.Mathlib.Omega.{arith}
use Rattle.tokens.specs.Taking.{TakesWord}
use Rattle.tokens.proofs.Scan.{rest_past}
use Rattle.tokens.proofs.take_word.Goals as goal

pub returns-then-from-text : goal.returns-then-from-text
unfolding TakesWord
returns-then-from-text c =
    let skipped = c.skip-from in
    let ended = c.word_end-to.ensures in
    (omega arith, omega arith, record { inside = ended.1; lines = omega arith }, skipped.ensures.2 ∙ ended.2 skipped.result.line)

pub returns-else-from-text : goal.returns-else-from-text
unfolding TakesWord
returns-else-from-text c = let skipped = c.skip-from in skipped.ensures.2 ∙ rest_past _ skipped.result.at c.if-from-text.false skipped.result.line
