-- Set after set: those that were passed are answered in their parts, and the parts of the others are as lent.
use Rattle.std.proofs.Common.{◌≡◌, ◌*◌, length}
use Rattle.words.specs.Part.{part}
use Rattle.words.proofs.Written.{PartsDone}
use Rattle.sets.specs.Answer.{answer_length}
use Rattle.sets.specs.Set.{SetAnswered}
use Rattle.sets.proofs.Sets.answer_sets.Given as goal

abbrev pub invariant-loop-j : goal.invariant-loop-j
invariant-loop-j live =
    (length live.answers ≡ length live.initial.answers)
    × PartsDone live.size
    (λ l left. SetAnswered live.self.field.modulus live.self.n live.self.s live.self.d.now (part (live.self.n * live.self.s) l live.self.series.now) (part live.size l live.initial.bases) left (part answer_length l live.answers))
    live.initial.bases live.bases live.j
