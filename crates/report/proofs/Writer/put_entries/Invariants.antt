-- `put_entries` meets its contract: an entry in each turn.
use Rattle.std.proofs.Common.{length}
use Rattle.report.specs.Each.{each}
use Rattle.words.specs.Part.{part}
use Rattle.report.specs.Text.{entry_text}
use Rattle.report.specs.Appended.{Appended}
use Rattle.report.proofs.Chunks.{Cut}
use Rattle.report.proofs.Writer.put_entries.Given as goal

abbrev pub invariant-loop-entry : goal.invariant-loop-entry
invariant-loop-entry l = Cut l.w l.row (length l.yielded) l.entry-iterator × Appended (each (λ k. entry_text (part l.w k l.row)) (length l.yielded)) l.initial.self l.self
