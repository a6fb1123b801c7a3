-- `put_numbers` meets its contract: a number in each turn.
use lib.ListN.{get_or}
use Rattle.report.specs.Each.{each}
use Rattle.report.specs.Text.{number}
use Rattle.report.specs.Appended.{Appended}
use Rattle.report.proofs.Writer.put_numbers.Given as goal

abbrev pub invariant-loop-word : goal.invariant-loop-word
invariant-loop-word l = Appended (each (λ k. number (get_or l.words k 0)) l.word-index) l.initial.self l.self
