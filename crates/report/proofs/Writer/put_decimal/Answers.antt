-- `put_decimal` meets its contract: the fewest digits are the decimal ones.
use mathlib.Core.Path.{◌∙◌}
use Rattle.report.proofs.Decimal.{fewest_decimal}
use Rattle.report.proofs.Writer.put_decimal.Goals as goal

pub put-requires : goal.put-requires
put-requires c =
    let d = c.decimal-k.ensures in
    let e = d.digits ∙ fewest_decimal _ _ d.len in
    rw e c.requires

pub returns : goal.returns
returns c =
    let d = c.decimal-k.ensures in
    let e = d.digits ∙ fewest_decimal _ _ d.len in
    rw e at c.put.ensures
