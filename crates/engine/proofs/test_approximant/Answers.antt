-- The modulus and the number of series, then the rest.
use Rattle.std.proofs.lemmas.Result.{err_from_is_err_and}
use Rattle.field.proofs.Tests.{passed, and_then, and_stop}
use Rattle.sizes.proofs.Passed.{start_passed}
use Rattle.engine.proofs.test_approximant.Goals as goal

pub returns-in_err-test_start : goal.returns-in_err-test_start
returns-in_err-test_start c =
    let p = err_from_is_err_and c.from_residual.result c.from_residual.ensures.1 in
    rw (p.1, p.2) (and_stop _ _ _ c.in_err-test_start.ensures)

pub test_type_and_series-requires : goal.test_type_and_series-requires
test_type_and_series-requires c =
    let known = start_passed _ _ (passed _ _ c.in_ok-test_start.ensures) in
    (known.1, known.2)

pub returns : goal.returns
returns c = and_then _ _ _ _ c.in_ok-test_start.ensures c.test_type_and_series.ensures
