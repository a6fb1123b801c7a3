-- `numbers` meets its contract: the numbers taken so far stand in front.
use mathlib.Core.Path.{◌∙◌}
use native.Mathlib.Omega.{arith}
use lib.ListN.{length, take}
use Rattle.std.proofs.lemmas.List.{set-get_or}
use Rattle.std.proofs.lemmas.Result.{err_from_is_err_and}
use Rattle.jobtext.specs.Job.{is_below}
use Rattle.jobtext.specs.Reading.{Fills}
use Rattle.jobtext.proofs.Reading.{many_wrong, many_end, set_turn}
use Rattle.jobtext.proofs.Reader.numbers.Goals as goal

pub returns-in_err-value : goal.returns-in_err-value
unfolding Fills
returns-in_err-value c =
    let a = c.args in
    let l = c.loop-value in
    let p = err_from_is_err_and c.from_residual.result c.from_residual.ensures.1 in
    rw (p.1, p.2, set-get_or) (λ go. l.invariant go ∙ many_wrong (is_below a.limit) a.slip go (take l.value-index l.out) (length l.out) l.value-index (omega arith) _ _ _ c.in_err-value.ensures)

pub loop-value-preserved : goal.loop-value-preserved
loop-value-preserved c =
    let a = c.args in
    let l = c.loop-value in
    λ go. set_turn (is_below a.limit) a.slip go _ l.out l.value-index _ _ _ (omega arith) c.in_ok-value.ensures (l.invariant go)

pub returns : goal.returns
unfolding Fills
returns c =
    let a = c.args in
    let l = c.loop-value in
    λ go. l.invariant go ∙ many_end (is_below a.limit) a.slip go l.out (length l.out) l.value-index _ (omega arith) (omega arith)
