-- No number below d divides n, the invariant Tried of proofs/Trial, and past the square root that makes n prime; the measure is what is left up to n.
use Rattle.std.proofs.Common.{◌-◌}
use Rattle.field.proofs.Trial.{Tried}
use Rattle.field.proofs.rest_is_prime.Given as goal

abbrev pub invariant-loop-d : goal.invariant-loop-d
invariant-loop-d l = Tried l.n l.d l.i

abbrev pub decreases-loop-d : goal.decreases-loop-d
decreases-loop-d l = l.n - l.d
