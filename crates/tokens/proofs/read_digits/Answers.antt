-- `read_digits` meets its contract: the number so far, and what is left of the word.
use mathlib.Core.Path.{sym, ◌∙◌}
use native.Mathlib.Omega.{arith}
use Rattle.std.proofs.Common.{rules}
use Rattle.tokens.proofs.Number.{stop, digit_turn, converted, last}
use Rattle.tokens.proofs.read_digits.Goals as goal
use Rattle.tokens.proofs.read_digits.Goals.{then-value-from, else-value-from}

pub returns-then-not-is_ascii_digit : goal.returns-then-not-is_ascii_digit
returns-then-not-is_ascii_digit c = let h = c.if-not-is_ascii_digit.ensures.cases in sym (c.loop-b.invariant.1 ∙ stop _ c.loop-b.b-index c.loop-b.value c.loop-b-test.true h)

pub loop-b-preserved : goal.loop-b-preserved
loop-b-preserved c =
    let i = c.loop-b in
    let h = c.if-not-is_ascii_digit.ensures.cases in
    elim c.if-value-from.branch [
      | then-value-from w ↦ (omega arith, i.invariant.1 ∙ digit_turn _ i.b-index i.value c.loop-b-test.true _ h.0 h.1 (λ l. omega arith) (λ l. omega arith))
      | else-value-from w ↦ (omega arith, i.invariant.1 ∙ digit_turn _ i.b-index i.value c.loop-b-test.true _ h.0 h.1 (λ l. omega arith) (λ l. omega arith))
    ]

pub returns : goal.returns
returns c =
    let i = c.loop-b in
    let read = converted i.value _ _ _ c.try_from.ensures c.map_err.ensures.cases (λ e n q. search rules) in
    read ∙ sym (i.invariant.1 ∙ last _ i.b-index i.value c.loop-b-test.false)
