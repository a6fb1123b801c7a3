-- `read_arguments` meets its contract: the words before the position are read.
use native.Mathlib.Omega.{arith}
use Rattle.std.proofs.lemmas.Result.{err_from_is_err_and}
use Rattle.tokens.proofs.Taking.{took_word, took_end}
use Rattle.request.proofs.Argued.{arguing_none, arguing_on, arguing_stop, arguing_full, arguing_end}
use Rattle.request.proofs.read_arguments.Goals as goal

pub loop-word-init : goal.loop-word-init
loop-word-init c = arguing_none _ _ _

pub returns-then-count-ends : goal.returns-then-count-ends
returns-then-count-ends c =
    let taken = took_word _ _ c.in-Ok.is c.take_word.ensures in
    let told = arguing_full c.loop-word.invariant _ taken.3 c.if-count-ends.true in
    record { said = told.0; values_left = told.1.0; ends_left = told.1.1 }

pub slice_bounds-read_list-count : goal.slice_bounds-read_list-count
slice_bounds-read_list-count c = let taken = took_word _ _ c.in-Ok.is c.take_word.ensures in omega arith

pub slice_bounds-read_list-start : goal.slice_bounds-read_list-start
slice_bounds-read_list-start c = let taken = took_word _ _ c.in-Ok.is c.take_word.ensures in omega arith

pub slice_bounds-read_list-end : goal.slice_bounds-read_list-end
slice_bounds-read_list-end c = let taken = took_word _ _ c.in-Ok.is c.take_word.ensures in omega arith

pub returns-in_err-k : goal.returns-in_err-k
returns-in_err-k c =
    let taken = took_word _ _ c.in-Ok.is c.take_word.ensures in
    let told = arguing_stop c.loop-word.invariant _ taken.3 c.if-count-ends.false c.read_list.ensures (omega arith) c.in_err-k.was in
    let p = err_from_is_err_and c.from_residual.result c.from_residual.ensures.1 in
    record { said = rw (p.1, p.2) told.0; values_left = told.1.0; ends_left = told.1.1 }

pub overflow_add-used : goal.overflow_add-used
overflow_add-used c =
    let taken = took_word _ _ c.in-Ok.is c.take_word.ensures in
    let on = arguing_on c.loop-word.invariant _ taken.3 c.if-count-ends.false c.read_list.ensures (omega arith) c.in_ok-k.was taken.2 in
    omega (arith, on.filled.fits)

pub loop-word-smaller : goal.loop-word-smaller
loop-word-smaller c = let taken = took_word _ _ c.in-Ok.is c.take_word.ensures in omega arith

pub loop-word-preserved : goal.loop-word-preserved
loop-word-preserved c =
    let taken = took_word _ _ c.in-Ok.is c.take_word.ensures in
    arguing_on c.loop-word.invariant _ taken.3 c.if-count-ends.false c.read_list.ensures (omega arith) c.in_ok-k.was taken.2

pub returns : goal.returns
returns c =
    let told = arguing_end c.loop-word.invariant (took_end _ _ c.in_default.is c.take_word.ensures) in
    record { said = told.0; values_left = told.1.0; ends_left = told.1.1 }
