-- `read_numeral` meets its contract: a word with a byte is read digit by digit.
use mathlib.Core.Path.{sym, ◌∙◌}
use native.Mathlib.Omega.{arith}
use Rattle.std.proofs.Common.{rules}
use Rattle.std.proofs.lemmas.Bool.Decides.{nat_tests}
use Rattle.tokens.proofs.Number.{no_word, some_word}
use Rattle.tokens.proofs.read_numeral.Goals as goal

pub returns-then-is_empty : goal.returns-then-is_empty
returns-then-is_empty c = let e = c.is_empty.ensures in sym (no_word _ (search rules))

pub returns-else-is_empty : goal.returns-else-is_empty
returns-else-is_empty c = let e = c.is_empty.ensures in c.read_digits.ensures ∙ sym (some_word _ λ z. grind (arith, nat_tests))
