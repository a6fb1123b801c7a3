-- The modulus is tested first, then the operand.
use Rattle.std.proofs.Common.{Ok, Err, arith}
use Rattle.field.specs.declared.Refusal.{Refusal}
use Rattle.field.proofs.Truth.{fails}
use Rattle.field.proofs.Tests.{here, later, no_more}
use Rattle.field.proofs.Field.test_operand.Goals as goal

pub returns-then-not-admits : goal.returns-then-not-admits
returns-then-not-admits c = here _ _ Refusal.Modulus (fails _ c.admits.ensures c.if-not-admits.true)

pub returns-then-a-p : goal.returns-then-a-p
returns-then-a-p c = later _ _ (Err Refusal.Coefficient) (λ n. n (c.admits.ensures.0 c.if-not-admits.false)) (here _ _ Refusal.Coefficient (omega arith))

pub returns : goal.returns
returns c = later _ _ (Ok _) (λ n. n (c.admits.ensures.0 c.if-not-admits.false)) (later _ _ (Ok _) (omega arith) (no_more _))
