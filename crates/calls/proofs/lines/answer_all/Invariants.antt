-- `answer_all` is safe: what it keeps lies within the text.
use Rattle.std.proofs.Common.{◌≤◌, length}
use Rattle.calls.proofs.lines.answer_all.Given as goal

abbrev pub invariant-loop : goal.invariant-loop
invariant-loop g l = l.kept ≤ length l.text
