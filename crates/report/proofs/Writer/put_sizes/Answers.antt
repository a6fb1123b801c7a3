-- `put_sizes` meets its contract: its pieces are appended one after the other.
use Rattle.report.specs.Text.{sizes}
use Rattle.report.proofs.Appended.{pieces}
use Rattle.report.proofs.Writer.put_sizes.Goals as goal

pub put-requires : goal.put-requires
unfolding sizes
put-requires c = search pieces

pub put_number-requires : goal.put_number-requires
unfolding sizes
put_number-requires c = search pieces

pub put_number-requires-2 : goal.put_number-requires-2
unfolding sizes
put_number-requires-2 c = search pieces

pub put_number-requires-3 : goal.put_number-requires-3
unfolding sizes
put_number-requires-3 c = search pieces

pub returns : goal.returns
unfolding sizes
returns c = search pieces
