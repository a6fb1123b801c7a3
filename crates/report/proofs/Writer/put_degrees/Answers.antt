-- `put_degrees` meets its contract: its pieces are appended one after the other.
use Rattle.report.specs.Text.{degrees}
use Rattle.report.proofs.Appended.{pieces}
use Rattle.report.proofs.Writer.put_degrees.Goals as goal

pub put-requires : goal.put-requires
unfolding degrees
put-requires c = search pieces

pub put_number-requires : goal.put_number-requires
unfolding degrees
put_number-requires c = search pieces

pub put_number-requires-2 : goal.put_number-requires-2
unfolding degrees
put_number-requires-2 c = search pieces

pub put-requires-2 : goal.put-requires-2
unfolding degrees
put-requires-2 c = search pieces

pub put_shifted-requires : goal.put_shifted-requires
unfolding degrees
put_shifted-requires c = search pieces

pub returns : goal.returns
unfolding degrees
returns c = search pieces
