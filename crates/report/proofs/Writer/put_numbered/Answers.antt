-- `put_numbered` meets its contract: its pieces are appended one after the other.
use Rattle.report.specs.Text.{numbered}
use Rattle.report.proofs.Appended.{pieces}
use Rattle.report.proofs.Writer.put_numbered.Goals as goal

pub put-requires : goal.put-requires
unfolding numbered
put-requires c = search pieces

pub put_number-requires : goal.put_number-requires
unfolding numbered
put_number-requires c = search pieces

pub put-requires-2 : goal.put-requires-2
unfolding numbered
put-requires-2 c = search pieces

pub returns : goal.returns
unfolding numbered
returns c = search pieces
