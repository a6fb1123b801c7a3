-- `put_rows` meets its contract: a row in each turn.
use Prim.Native.Nat.{◌*◌}
use lib.ListN.{length, get_or}
use Rattle.report.specs.Each.{each}
use Rattle.words.specs.Part.{part}
use Rattle.report.specs.Text.{row_line}
use Rattle.report.specs.Appended.{Appended}
use Rattle.report.proofs.Rows.{Rows}
use Rattle.report.proofs.Writer.put_rows.Given as goal

abbrev pub invariant-loop-i : goal.invariant-loop-i
invariant-loop-i l =
    Rows l.w l.basis l.d (length l.yielded) l.i-iterator
    × Appended (each (λ i. row_line (length l.d) l.w (get_or l.d i 0) i (part (length l.d * l.w) i l.basis)) (length l.yielded)) l.initial.self l.self
