-- `add_multiple` meets its contract: below t the multiple is added. Past the end there is nothing to add.
use Prim.Native.Nat.{◌+◌, ◌*◌, ◌%◌}
use Rattle.words.specs.Polynomial.{poly}
use Rattle.words.proofs.Written.{Written}
use Rattle.row.proofs.add_multiple.Given as goal

abbrev pub invariant-loop-t : goal.invariant-loop-t
invariant-loop-t l = Written (λ k. (poly l.initial.entry k + l.m.factor * poly l.from k) % l.f.modulus) l.initial.entry l.entry l.t
