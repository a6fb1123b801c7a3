-- The residue of the upper sum, 16 bits more, is below 2^48.
use Rattle.std.proofs.Common.{◌∙◌}
use Rattle.field.proofs.Residue.{sum_mul_left}
use Rattle.field.proofs.Field.sum_of.Goals as goal

pub returns : goal.returns
returns c = c.residue.ensures ∙ rw c.residue-high.ensures (sum_mul_left _ _ _ _)
