-- `divide` meets its contract: both are multiplied by the inverse of the constant term.
use Rattle.std.proofs.Common.{refl, rules, arith}
use Rattle.words.specs.Polynomial.{poly}
use Rattle.pade.proofs.divide.Goals as goal

pub returns-then-constant-eq0 : goal.returns-then-constant-eq0
unfolding poly
returns-then-constant-eq0 c = (refl, search rules, refl, refl)

pub inverse-h-requires : goal.inverse-h-requires
unfolding poly
inverse-h-requires c = (c.requires.0, omega arith, c.requires.5)

pub returns : goal.returns
unfolding poly
returns c =
    record { factor = _; inverse = c.inverse-h.ensures; first = c.scale.ensures; second = c.scale-2.ensures }
