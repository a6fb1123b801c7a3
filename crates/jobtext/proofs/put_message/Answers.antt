-- `put_message` meets its contract: its pieces are appended one after the other.
use Rattle.report.proofs.Appended.{pieces}
use Rattle.jobtext.specs.Message.{message}
use Rattle.jobtext.proofs.put_message.Goals as goal

pub put-requires : goal.put-requires
unfolding message
put-requires c = search pieces

pub put_number-requires : goal.put_number-requires
unfolding message
put_number-requires c = search pieces

pub put-requires-2 : goal.put-requires-2
unfolding message
put-requires-2 c = search pieces

pub put_words-requires : goal.put_words-requires
unfolding message
put_words-requires c = search pieces

pub put-requires-3 : goal.put-requires-3
unfolding message
put-requires-3 c = search pieces

pub returns : goal.returns
unfolding message
returns c = search pieces
