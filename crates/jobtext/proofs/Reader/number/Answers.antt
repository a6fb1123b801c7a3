-- `number` meets its contract: the next token is the word, and its number is taken.
use native.Mathlib.Omega.{arith}
use Rattle.std.proofs.Common.{rules}
use Rattle.std.proofs.lemmas.Result.{err_from_is_err_and}
use Rattle.tokens.proofs.Taking.{took_word, took_end}
use Rattle.jobtext.proofs.Reading.{takes_none, takes_read}
use Rattle.jobtext.proofs.Reader.number.Goals as goal

pub returns-in_err-word : goal.returns-in_err-word
returns-in_err-word c =
    let p = err_from_is_err_and c.from_residual.result c.from_residual.ensures.1 in
    rw (p.1, p.2) (takes_none _ _ _ _ (took_end _ _ c.in_err-word.was c.take_word.ensures))

pub invariant_of-self : goal.invariant_of-self
invariant_of-self c = let taken = took_word _ _ c.in_ok-word.was c.take_word.ensures in record { inside = taken.2 }

pub slice_bounds-read_numeral-count : goal.slice_bounds-read_numeral-count
slice_bounds-read_numeral-count c = let taken = took_word _ _ c.in_ok-word.was c.take_word.ensures in omega arith

pub slice_bounds-read_numeral-start : goal.slice_bounds-read_numeral-start
slice_bounds-read_numeral-start c = slice_bounds-read_numeral-count c

pub returns : goal.returns
returns c =
    let taken = took_word _ _ c.in_ok-word.was c.take_word.ensures in
    takes_read _ _ _ taken.3 c.read_numeral.ensures c.map_err.ensures.cases (λ e f q. search rules)
