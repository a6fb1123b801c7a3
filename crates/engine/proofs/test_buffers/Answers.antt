-- The basis first, then type and series as for a job.
use Rattle.field.specs.declared.Refusal.{Refusal}
use Rattle.field.proofs.Truth.{exact}
use Rattle.field.proofs.Tests.{here, later}
use Rattle.engine.proofs.test_buffers.Goals as goal

pub returns-then-basis-n : goal.returns-then-basis-n
returns-then-basis-n c = here _ _ Refusal.Length c.if-basis-n.true

pub returns : goal.returns
returns c = later _ _ _ (exact c.if-basis-n.false) c.test_job.ensures
