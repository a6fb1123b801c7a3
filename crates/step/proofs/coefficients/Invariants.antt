-- `coefficients` meets its contract: after l turns the first l coefficients are there, and 0 past them.
use Prim.Native.Nat.{◌-◌, ◌%◌}
use lib.ListN.{replicate}
use Rattle.row.specs.View.{vector, row}
use Rattle.relation.specs.Product.{dot}
use Rattle.words.proofs.Written.{Written}
use Rattle.step.proofs.coefficients.Given as goal

abbrev pub invariant-loop-l : goal.invariant-loop-l
invariant-loop-l l = Written (λ k. dot l.shape.n (row l.shape.n l.shape.width l.basis k) (vector (l.shape.width - 1) l.series) l.at % l.f.modulus) (replicate 8 0) l.c l.l
