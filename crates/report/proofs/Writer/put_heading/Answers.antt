-- `put_heading` meets its contract: its pieces are appended one after the other.
use Rattle.report.specs.Decimal.{signed}
use Rattle.report.specs.Text.{heading, type_numbers, numbers, number}
use Rattle.report.proofs.Appended.{pieces}
use Rattle.report.proofs.Writer.put_heading.Goals as goal

pub put_sizes-requires : goal.put_sizes-requires
unfolding heading type_numbers numbers number signed
put_sizes-requires c = search pieces

pub put-requires : goal.put-requires
unfolding heading type_numbers numbers number signed
put-requires c = search pieces

pub put_numbers-requires : goal.put_numbers-requires
unfolding heading type_numbers numbers number signed
put_numbers-requires c = search pieces

pub put-requires-2 : goal.put-requires-2
unfolding heading type_numbers numbers number signed
put-requires-2 c = search pieces

pub returns : goal.returns
unfolding heading type_numbers numbers number signed
returns c = search pieces
