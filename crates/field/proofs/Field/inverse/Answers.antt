-- A positive number below a prime is coprime to it, and Euclid's first number is then its inverse.
use Rattle.field.proofs.Prime.{prime_coprime}
use Rattle.field.proofs.Coprime.{bezout_inverse}
use Rattle.field.proofs.Field.inverse.Goals as goal

pub euclid-requires : goal.euclid-requires
euclid-requires c = (c.requires.1, c.requires.2, prime_coprime _ c.requires.0 _ c.requires.1 c.requires.2)

pub returns : goal.returns
returns c = bezout_inverse _ _ _ _ c.requires.0.above_one c.euclid.ensures
