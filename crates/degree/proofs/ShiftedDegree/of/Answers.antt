-- `ShiftedDegree::of` meets its contract: degree and type entry are small, so their difference as signed numbers fits.
use borrow.Author.Rules.{rules}
use native.Mathlib.Omega.{arith}
use Rattle.degree.proofs.Signed.{difference_fits, difference_read}
use Rattle.degree.proofs.ShiftedDegree.of.Goals as goal

pub overflow_sub-result : goal.overflow_sub-result
overflow_sub-result c = difference_fits c.args.deg.0 c.args.d (omega arith) (search rules)

pub returns : goal.returns
returns c = difference_read c.args.deg.0 c.args.d (omega arith) (search rules)
