-- `scale` meets its contract: below x the words are the multiples.
use Rattle.words.specs.Polynomial.{poly}
use Rattle.words.proofs.Written.{Written}
use Rattle.relation.specs.Operations.{scaled}
use Rattle.pade.proofs.scale.Given as goal

abbrev pub invariant-loop-x : goal.invariant-loop-x
invariant-loop-x l = Written (scaled l.f.modulus l.h (poly l.from)) l.initial.into l.into l.x
