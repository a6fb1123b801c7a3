-- `draw` meets its contract: the words so far are drawn, and the others follow from x.
use mathlib.Core.Path.{◌≡◌}
use mathlib.Core.List.{◌++◌}
use Prim.Native.Nat.{◌-◌, ◌<◌}
use lib.ListN.{length, take}
use Rattle.request.specs.Drawn.{start, drawn, prime47}
use Rattle.request.proofs.draw.Given as goal

abbrev pub invariant-loop-word : goal.invariant-loop-word
invariant-loop-word l = record {
  state : l.x < prime47;
  left : drawn l.modulus (length l.initial.out) (start l.seed) ≡ take l.word-index l.out ++ drawn l.modulus (length l.initial.out - l.word-index) l.x;
}
