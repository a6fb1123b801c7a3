-- The order, the lengths and the coefficients, in this order.
use Rattle.std.proofs.Common.{Ok, Err, inl, inr, arith}
use Rattle.field.specs.declared.Refusal.{Refusal}
use Rattle.field.proofs.Truth.{fails, no_either, exact}
use Rattle.field.proofs.Tests.{here, later, no_more}
use Rattle.engine.proofs.test_series.Goals as goal
use Rattle.engine.proofs.test_series.Goals.{then-series-n-via-then-series-n, then-series-n-via-else-series-n+then-basis-n}

pub returns-then-s-gt255 : goal.returns-then-s-gt255
returns-then-s-gt255 c = here _ _ Refusal.Order (omega arith)

pub returns-then-series-n : goal.returns-then-series-n
returns-then-series-n c =
    later _ _ (Err Refusal.Length) (omega arith)
    (here _ _ Refusal.Length (elim c.then-series-n.branch [
      | then-series-n-via-then-series-n w ↦ inl w.if-series-n.true
      | then-series-n-via-else-series-n+then-basis-n w ↦ inr w.if-basis-n.true
    ]))

pub returns-then-any_from : goal.returns-then-any_from
returns-then-any_from c =
    later _ _ (Err Refusal.Coefficient) (omega arith)
    (later _ _ (Err Refusal.Coefficient) (no_either (exact c.if-series-n.false) (exact c.if-basis-n.false)) (here _ _ Refusal.Coefficient (c.any_from.ensures.0 c.if-any_from.true)))

pub returns : goal.returns
returns c =
    later _ _ (Ok _) (omega arith)
    (later _ _ (Ok _) (no_either (exact c.if-series-n.false) (exact c.if-basis-n.false)) (later _ _ (Ok _) (fails _ c.any_from.ensures c.if-any_from.false) (no_more _)))
