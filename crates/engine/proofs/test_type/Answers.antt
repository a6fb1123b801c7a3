-- The type's length, then its entries.
use Rattle.std.proofs.Common.{Ok, Err}
use Rattle.field.specs.declared.Refusal.{Refusal}
use Rattle.field.proofs.Truth.{fails, exact}
use Rattle.field.proofs.Tests.{here, later, no_more}
use Rattle.engine.proofs.test_type.Goals as goal

pub returns-then-d-n : goal.returns-then-d-n
returns-then-d-n c = here _ _ Refusal.Length c.if-d-n.true

pub returns-then-any_entry_outside : goal.returns-then-any_entry_outside
returns-then-any_entry_outside c =
    later _ _ (Err Refusal.Entry) (exact c.if-d-n.false) (here _ _ Refusal.Entry (c.any_entry_outside.ensures.0 c.if-any_entry_outside.true))

pub returns : goal.returns
returns c =
    later _ _ (Ok _) (exact c.if-d-n.false) (later _ _ (Ok _) (fails _ c.any_entry_outside.ensures c.if-any_entry_outside.false) (no_more _))
