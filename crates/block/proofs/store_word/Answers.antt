-- The four bytes are the word's.
use Rattle.std.proofs.Common.{◌∙◌}
use Rattle.block.proofs.Store.{stored_at_once}
use Rattle.block.proofs.store_word.Goals as goal

pub returns : goal.returns
returns c = stored_at_once c.args.bytes.now c.copy_from_slice.new.self c.args.i c.args.w c.requires (c.copy_from_slice.ensures.after ∙ c.to_le_bytes.ensures)
