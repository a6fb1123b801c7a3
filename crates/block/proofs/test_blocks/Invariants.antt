-- The answer for the blocks that have not come is the answer for all.
use Rattle.block.specs.Fault.{faults}
use Rattle.std.proofs.Common.{Result}
use Rattle.field.specs.declared.Refusal.{Refusal}
use Rattle.field.specs.Calls.{Tests}
use Rattle.block.proofs.Fault.{Scan, faults_left}
use Rattle.block.proofs.test_blocks.Given as goal

abbrev pub invariant-loop-b : goal.invariant-loop-b
invariant-loop-b l =
    Scan l.count l.b-iterator
    × ((t : Result Unit Refusal) → Tests (faults_left l.first l.count l.b-iterator) t → Tests (faults l.first l.count l.file) t)
