-- What is left of the product is below 2p, and 2p fits 32 bits.
use Rattle.std.proofs.Common.{◌+◌, ◌*◌, ◌/◌, ◌^◌, ◌<◌, ◌≤◌, refl, ◌∙◌, arith}
use native.Mathlib.Nat.{add-sub_cancel_left}
use Rattle.field.proofs.Fixed.{low, high, left_over}
use Rattle.field.proofs.Field.plus_multiple.Goals as goal
use Rattle.field.proofs.Field.plus_multiple.Goals.{Start}

at_most : (c : Start) → c.args.m.quotient * c.args.y / 2 ^ 32 * c.args.self.modulus ≤ c.args.m.factor * c.args.y
at_most c = low 32 c.args.self.modulus c.args.m.factor c.args.y c.args.m.quotient _ (omega arith) (omega arith) c.requires.1.estimate refl

below : (c : Start) → c.args.m.factor * c.args.y < c.args.m.quotient * c.args.y / 2 ^ 32 * c.args.self.modulus + (c.args.self.modulus + c.args.self.modulus)
below c = high 32 c.args.self.modulus c.args.m.factor c.args.y c.args.m.quotient _ (omega arith) (omega arith) c.requires.1.estimate refl

pub overflow_sub-r : goal.overflow_sub-r
overflow_sub-r c = omega (arith, at_most c.before.before.before)

pub overflow_cast-r-4 : goal.overflow_cast-r-4
overflow_cast-r-4 c = omega (arith, below c.before.before.before)

pub less-requires : goal.less-requires
less-requires c = omega (arith, below c.before.before.before)

pub returns : goal.returns
returns c =
    c.more.ensures ∙ rw (c.less.ensures, add-sub_cancel_left) (left_over _ _ _ _ (at_most c.before.before.before.before.before))
