-- `degree_of` meets its contract: by the words that are used.
use native.Mathlib.Omega.{arith}
use Rattle.report.specs.Entry.{degree}
use Rattle.report.proofs.degree_of.Goals as goal

pub returns : goal.returns
unfolding degree
returns c = grind (arith, c.last_nonzero.ensures, c.unwrap_or.ensures)
