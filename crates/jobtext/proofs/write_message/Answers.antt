-- `write_message` meets its contract: every message fits.
use native.Mathlib.Omega.{arith}
use Rattle.report.proofs.Wrote.{wrote_whole}
use Rattle.jobtext.proofs.Message.{message_fits}
use Rattle.jobtext.proofs.write_message.Goals as goal

pub put_message-requires : goal.put_message-requires
put_message-requires c = record { fits = omega (arith, message_fits c.args.fault.slip c.args.fault.line (omega arith)) }

pub returns : goal.returns
returns c = wrote_whole (record { fits = omega (arith, message_fits c.args.fault.slip c.args.fault.line (omega arith)) }) c.put_message.ensures.wrote
