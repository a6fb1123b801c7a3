-- `last_nonzero` meets its contract: the words after the place that it finds are zeros.
use Rattle.std.proofs.Common.{rules}
use Rattle.report.proofs.Entry.{last_place}
use Rattle.report.proofs.last_nonzero.Goals as goal

pub returns : goal.returns
returns c = last_place _ _ (search rules)
