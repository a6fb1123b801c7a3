-- The lengths are tested first, then the type entries, then the coefficients.
use Rattle.std.proofs.Common.{Ok, Err, inl, inr}
use Rattle.field.specs.declared.Refusal.{Refusal}
use Rattle.field.proofs.Tests.{here, later, no_more}
use Rattle.field.proofs.Truth.{fails, no_either, exact}
use Rattle.sizes.proofs.test_job.Goals as goal
use Rattle.sizes.proofs.test_job.Goals.{then-job-n-via-then-job-n, then-job-n-via-else-job-n+then-job-n-2}

pub returns-then-job-n : goal.returns-then-job-n
returns-then-job-n c = here _ _ Refusal.Length (elim c.then-job-n.branch [
  | then-job-n-via-then-job-n w ↦ inl (w.if-job-n.true)
  | then-job-n-via-else-job-n+then-job-n-2 w ↦ inr (w.if-job-n-2.true)
])

pub returns-then-any_entry_outside : goal.returns-then-any_entry_outside
returns-then-any_entry_outside c =
    later _ _ (Err Refusal.Entry) (no_either (exact c.if-job-n.false) (exact c.if-job-n-2.false))
    (here _ _ Refusal.Entry (c.any_entry_outside.ensures.0 c.if-any_entry_outside.true))

pub returns-then-any_from : goal.returns-then-any_from
returns-then-any_from c =
    later _ _ (Err Refusal.Coefficient) (no_either (exact c.if-job-n.false) (exact c.if-job-n-2.false))
    (later _ _ (Err Refusal.Coefficient) (fails _ c.any_entry_outside.ensures c.if-any_entry_outside.false)
    (here _ _ Refusal.Coefficient (c.any_from.ensures.0 c.if-any_from.true)))

pub returns : goal.returns
returns c =
    later _ _ (Ok _) (no_either (exact c.if-job-n.false) (exact c.if-job-n-2.false))
    (later _ _ (Ok _) (fails _ c.any_entry_outside.ensures c.if-any_entry_outside.false) (later _ _ (Ok _) (fails _ c.any_from.ensures c.if-any_from.false) (no_more _)))
