-- `put` meets its contract: the part that it copies into is the text.
use mathlib.Core.Path.{refl}
use native.Mathlib.Omega.{arith}
use Rattle.report.proofs.Appended.{wrote_part}
use Rattle.report.proofs.Writer.put.Goals as goal

pub returns : goal.returns
returns c = record {
  wrote = record {
    position = refl;
    bytes = wrote_part _ _ _ _ _ c.copy_from_slice.ensures.after (omega arith) (omega arith);
  };
  same = refl;
}
