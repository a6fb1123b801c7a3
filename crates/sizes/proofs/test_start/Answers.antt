-- The modulus is tested first, then the number of series.
use Rattle.std.proofs.Common.{Ok, Err, inl, inr, arith}
use Rattle.field.specs.declared.Refusal.{Refusal}
use Rattle.field.proofs.Truth.{fails, no_either}
use Rattle.field.proofs.Tests.{here, later, no_more}
use Rattle.sizes.proofs.test_start.Goals as goal

pub returns-then-not-admits : goal.returns-then-not-admits
returns-then-not-admits c = here _ _ Refusal.Modulus (fails _ c.admits.ensures c.if-not-admits.true)

pub returns-then-n-lt1 : goal.returns-then-n-lt1
returns-then-n-lt1 c =
    later _ _ (Err Refusal.Count) (λ m. m (c.admits.ensures.0 c.if-not-admits.false)) (here _ _ Refusal.Count (elim c.then-n-lt1.either [
      | inl below ↦ inl below
      | inr above ↦ inr above.1
    ]))

pub returns : goal.returns
returns c = later _ _ (Ok _) (λ m. m (c.admits.ensures.0 c.if-not-admits.false)) (later _ _ (Ok _) (no_either (omega arith) (omega arith)) (no_more _))
