-- The first number falls: a remainder is below its divisor.
use Rattle.field.proofs.+euclid.Given as goal

abbrev pub decreases-euclid : goal.decreases-euclid
decreases-euclid l = l.a
