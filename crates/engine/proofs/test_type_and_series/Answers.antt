-- The type, then the series at the order σ of the type.
use Rattle.std.proofs.lemmas.Result.{err_from_is_err_and}
use native.Mathlib.Omega.{arith}
use Rattle.field.proofs.Tests.{passed, and_then, and_stop}
use Rattle.engine.proofs.Admitted.{type_passed}
use Rattle.engine.proofs.test_type_and_series.Goals as goal

pub returns-in_err-test_type : goal.returns-in_err-test_type
returns-in_err-test_type c =
    let p = err_from_is_err_and c.from_residual.result c.from_residual.ensures.1 in
    rw (p.1, p.2) (and_stop _ _ _ c.in_err-test_type.ensures)

pub order_of-requires : goal.order_of-requires
order_of-requires c =
    let type = type_passed c.args.n c.args.d.now (passed _ _ c.in_ok-test_type.ensures) in
    (omega (arith, type.0), omega (arith, type.0), type.1)

pub returns : goal.returns
returns c =
    let type = type_passed c.args.n c.args.d.now (passed _ _ c.in_ok-test_type.ensures) in
    and_then _ _ _ _ c.in_ok-test_type.ensures (rw (c.order_of.ensures.0, type.0) at c.test_series.ensures)
