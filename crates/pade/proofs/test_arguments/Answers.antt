-- The modulus, the order N, k, the lengths and the coefficients, in this order.
use Rattle.std.proofs.Common.{Ok, Err, inl, inr, arith}
use Rattle.field.specs.declared.Refusal.{Refusal}
use Rattle.field.proofs.Truth.{fails, no_either, exact}
use Rattle.field.proofs.Tests.{here, later, no_more}
use Rattle.pade.proofs.test_arguments.Goals as goal
use Rattle.pade.proofs.test_arguments.Goals.{then-r-first-via-then-r-first, then-r-first-via-else-r-first+then-t-order}

pub returns-then-not-admits : goal.returns-then-not-admits
returns-then-not-admits c = here _ _ Refusal.Modulus (fails _ c.admits.ensures c.if-not-admits.true)

pub returns-then-order-gt255 : goal.returns-then-order-gt255
returns-then-order-gt255 c =
    later _ _ (Err Refusal.Order) (λ m. m (c.admits.ensures.0 c.if-not-admits.false)) (here _ _ Refusal.Order (omega arith))

pub returns-then-first-lt1 : goal.returns-then-first-lt1
returns-then-first-lt1 c =
    later _ _ (Err Refusal.Numerator) (λ m. m (c.admits.ensures.0 c.if-not-admits.false))
    (later _ _ (Err Refusal.Numerator) (omega arith) (here _ _ Refusal.Numerator (elim c.then-first-lt1.either [
      | inl below ↦ inl below
      | inr above ↦ inr above.1
    ])))

pub returns-then-r-first : goal.returns-then-r-first
returns-then-r-first c =
    later _ _ (Err Refusal.Length) (λ m. m (c.admits.ensures.0 c.if-not-admits.false))
    (later _ _ (Err Refusal.Length) (omega arith)
    (later _ _ (Err Refusal.Length) (no_either (omega arith) (omega arith)) (here _ _ Refusal.Length (elim c.then-r-first.branch [
      | then-r-first-via-then-r-first w ↦ inl w.if-r-first.true
      | then-r-first-via-else-r-first+then-t-order w ↦ inr w.if-t-order.true
    ]))))

pub returns-then-any_from : goal.returns-then-any_from
returns-then-any_from c =
    later _ _ (Err Refusal.Coefficient) (λ m. m (c.admits.ensures.0 c.if-not-admits.false))
    (later _ _ (Err Refusal.Coefficient) (omega arith)
    (later _ _ (Err Refusal.Coefficient) (no_either (omega arith) (omega arith))
    (later _ _ (Err Refusal.Coefficient) (no_either (exact c.if-r-first.false) (exact c.if-t-order.false))
    (here _ _ Refusal.Coefficient (c.any_from.ensures.0 c.if-any_from.true)))))

pub returns : goal.returns
returns c =
    later _ _ (Ok _) (λ m. m (c.admits.ensures.0 c.if-not-admits.false))
    (later _ _ (Ok _) (omega arith)
    (later _ _ (Ok _) (no_either (omega arith) (omega arith))
    (later _ _ (Ok _) (no_either (exact c.if-r-first.false) (exact c.if-t-order.false))
    (later _ _ (Ok _) (fails _ c.any_from.ensures c.if-any_from.false) (no_more _)))))
