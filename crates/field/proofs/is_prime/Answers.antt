-- A number is below 2, or a multiple of 2, 3 or 5 and then prime only as that number itself, or it is for rest_is_prime.
use Rattle.std.proofs.Common.{refl}
use Rattle.field.specs.ModulusTest.{is_modulus, none_divides}
use Rattle.field.proofs.Trial.{multiple_prime}
use Rattle.field.proofs.ModulusTest.{modulus_test}
use Rattle.field.proofs.is_prime.Goals as goal

pub returns-then-n-eq0 : goal.returns-then-n-eq0
unfolding is_modulus none_divides
returns-then-n-eq0 c = multiple_prime 2 _ ((modulus_test 2).0 refl).prime c.if-n-eq0.true

pub returns-then-n-eq0-2 : goal.returns-then-n-eq0-2
unfolding is_modulus none_divides
returns-then-n-eq0-2 c = multiple_prime 3 _ ((modulus_test 3).0 refl).prime c.if-n-eq0-2.true

pub returns-then-n-eq0-3 : goal.returns-then-n-eq0-3
unfolding is_modulus none_divides
returns-then-n-eq0-3 c = multiple_prime 5 _ ((modulus_test 5).0 refl).prime c.if-n-eq0-3.true
