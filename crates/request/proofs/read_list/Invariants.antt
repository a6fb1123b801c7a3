-- `read_list` meets its contract: the pieces so far are written.
use lib.ListN.{length}
use Rattle.request.proofs.Lists.{Reading}
use Rattle.request.proofs.read_list.Given as goal

abbrev pub invariant-loop-part : goal.invariant-loop-part
invariant-loop-part l = Reading l.word l.initial.out l.out (length l.yielded) l.used
