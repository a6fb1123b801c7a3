-- The modulus, the number of series and the order, then the number of sets and what is lent.
use Rattle.std.proofs.lemmas.Result.{err_from_is_err_and}
use Rattle.field.proofs.Tests.{passed, and_then, and_stop}
use Rattle.sizes.proofs.Passed.{sizes_passed}
use Rattle.sets.proofs.test_bases.Goals as goal

pub returns-in_err-test_sizes : goal.returns-in_err-test_sizes
returns-in_err-test_sizes c =
    let p = err_from_is_err_and c.from_residual.result c.from_residual.ensures.1 in
    rw (p.1, p.2) (and_stop _ _ _ c.in_err-test_sizes.ensures)

pub test_lent-requires : goal.test_lent-requires
test_lent-requires c =
    let known = sizes_passed _ _ _ (passed _ _ c.in_ok-test_sizes.ensures) in
    (known.2, known.3)

pub returns : goal.returns
returns c = and_then _ _ _ _ c.in_ok-test_sizes.ensures c.test_lent.ensures
