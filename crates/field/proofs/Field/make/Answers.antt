-- A field is made of an admitted modulus.
use Rattle.std.proofs.Common.{refl, inl, inr}
use Rattle.field.specs.Refusal.{NoTest, First, Outcome}
use Rattle.field.specs.Calls.{MakeOutcome}
use Rattle.field.proofs.Truth.{fails}
use Rattle.field.proofs.Field.make.Goals as goal

pub returns-then-admits : goal.returns-then-admits
unfolding MakeOutcome Outcome NoTest
returns-then-admits c = inl ((λ n. n (c.admits.ensures.0 c.if-admits.true), tt), refl)

pub returns-else-admits : goal.returns-else-admits
unfolding MakeOutcome Outcome First
returns-else-admits c = inr (1, inl (fails _ c.admits.ensures c.if-admits.false, refl), refl)
