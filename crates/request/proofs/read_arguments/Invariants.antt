-- `read_arguments` meets its contract: the words before the position are read.
use Prim.Native.Nat.{◌-◌}
use lib.ListN.{length}
use Rattle.request.proofs.Argued.{Arguing}
use Rattle.request.proofs.read_arguments.Given as goal

abbrev pub invariant-loop-word : goal.invariant-loop-word
invariant-loop-word l = Arguing l.text l.initial.values l.initial.ends l.values l.ends l.here l.used l.count

abbrev pub decreases-loop-word : goal.decreases-loop-word
decreases-loop-word l = length l.text - l.here.at
