-- The number of sets, which makes the lengths small, then each length, then the entries.
use Rattle.std.proofs.Common.{Ok, Err}
use Rattle.field.specs.declared.Refusal.{Refusal}
use native.Mathlib.Omega.{arith}
use Rattle.field.proofs.Truth.{fails, exact}
use Rattle.field.proofs.Tests.{here, later, no_more}
use Rattle.sets.proofs.test_lent.Goals as goal

pub returns-then-sets-gt16 : goal.returns-then-sets-gt16
returns-then-sets-gt16 c = here _ _ Refusal.Sets (omega arith)

pub returns-then-job-n : goal.returns-then-job-n
returns-then-job-n c = later _ _ (Err Refusal.Length) (omega arith) (here _ _ Refusal.Length c.if-job-n.true)

pub returns-then-job-sets : goal.returns-then-job-sets
returns-then-job-sets c = later _ _ (Err Refusal.Length) (omega arith) (later _ _ (Err Refusal.Length) (exact c.if-job-n.false) (here _ _ Refusal.Length c.if-job-sets.true))

pub returns-then-bases-sets : goal.returns-then-bases-sets
returns-then-bases-sets c = later _ _ (Err Refusal.Length) (omega arith) (later _ _ (Err Refusal.Length) (exact c.if-job-n.false) (later _ _ (Err Refusal.Length) (exact c.if-job-sets.false) (here _ _ Refusal.Length c.if-bases-sets.true)))

pub returns-then-answers-sets : goal.returns-then-answers-sets
returns-then-answers-sets c =
    later _ _ (Err Refusal.Length) (omega arith) (later _ _ (Err Refusal.Length) (exact c.if-job-n.false) (later _ _ (Err Refusal.Length) (exact c.if-job-sets.false)
    (later _ _ (Err Refusal.Length) (exact c.if-bases-sets.false) (here _ _ Refusal.Length c.if-answers-sets.true))))

pub returns-then-any_entry_outside : goal.returns-then-any_entry_outside
returns-then-any_entry_outside c =
    later _ _ (Err Refusal.Entry) (omega arith) (later _ _ (Err Refusal.Entry) (exact c.if-job-n.false) (later _ _ (Err Refusal.Entry) (exact c.if-job-sets.false)
    (later _ _ (Err Refusal.Entry) (exact c.if-bases-sets.false) (later _ _ (Err Refusal.Entry) (exact c.if-answers-sets.false) (here _ _ Refusal.Entry (c.any_entry_outside.ensures.0 c.if-any_entry_outside.true))))))

pub returns : goal.returns
returns c =
    later _ _ (Ok _) (omega arith) (later _ _ (Ok _) (exact c.if-job-n.false) (later _ _ (Ok _) (exact c.if-job-sets.false)
    (later _ _ (Ok _) (exact c.if-bases-sets.false) (later _ _ (Ok _) (exact c.if-answers-sets.false) (later _ _ (Ok _) (fails _ c.any_entry_outside.ensures c.if-any_entry_outside.false) (no_more _))))))
