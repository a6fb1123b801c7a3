-- `times_x` meets its contract: behind the 0 stand the coefficients of the entry.
use native.Mathlib.Omega.{arith}
use lib.ListN.{length-set}
use Rattle.std.proofs.Common.{rules}
use Rattle.row.proofs.TimesX.{shifted}
use Rattle.row.proofs.times_x.Goals as goal

pub returns : goal.returns
returns c = shifted c.args.entry.now c.args.into.now _ _ (omega arith) (omega arith) c.requires.2 (search rules) (omega (arith, length-set c.args.into.now 0 0))
