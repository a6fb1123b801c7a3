-- The sizes, then the words they count; p, n and s are the first three words.
use Rattle.std.proofs.lemmas.Result.{err_from_is_err_and}
use Rattle.field.proofs.Tests.{passed, and_then, and_stop}
use Rattle.sizes.specs.Orders.{sizes_order}
use Rattle.jobfile.specs.Orders.{content_tests}
use Rattle.jobfile.proofs.Passed.{sizes_fit}
use Rattle.jobfile.proofs.test_words.Goals as goal

pub test_contents-requires : goal.test_contents-requires
test_contents-requires c =
    let fit = sizes_fit _ _ _ (passed _ _ c.in_ok-test_sizes.ensures) in
    (fit.n_to, fit.s_to)

pub returns-in_err-test_sizes : goal.returns-in_err-test_sizes
returns-in_err-test_sizes c =
    let p = err_from_is_err_and c.from_residual.result c.from_residual.ensures.1 in
    let v = c.sizes_in-sizes.result in
    rw (p.1, p.2) (rw c.sizes_in-sizes.ensures at (and_stop (sizes_order v.p v.n v.s) (content_tests c.args.file.now v.p v.n v.s) _ c.in_err-test_sizes.ensures))

pub returns : goal.returns
returns c = rw c.sizes_in-sizes.ensures at (and_then _ _ _ c.test_contents.result c.in_ok-test_sizes.ensures c.test_contents.ensures)
