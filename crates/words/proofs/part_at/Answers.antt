-- `part_at` meets its contract.
use Rattle.words.proofs.Part.{lent}
use Rattle.words.proofs.part_at.Goals as goal

pub returns : goal.returns
returns c = lent c.args.w c.args.k c.args.words.now
