-- `put_number` meets its contract: its pieces are appended one after the other.
use Rattle.report.specs.Text.{number}
use Rattle.report.proofs.Appended.{pieces}
use Rattle.report.proofs.Writer.put_number.Goals as goal

pub put-requires : goal.put-requires
unfolding number
put-requires c = search pieces

pub put_decimal-requires : goal.put_decimal-requires
unfolding number
put_decimal-requires c = search pieces

pub returns : goal.returns
unfolding number
returns c = search pieces
