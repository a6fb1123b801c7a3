-- Set after set: those that were passed are answered in their parts, and the parts of the others are as lent.
use Rattle.std.proofs.Common.{◌∙◌, ℕ, ◌+◌, ◌*◌, ◌≤◌, length, arith}
use Rattle.words.specs.Part.{part}
use Rattle.words.proofs.Part.{part_fits, part_length, lent, put_length}
use Rattle.words.proofs.Written.{parts_turn_two}
use Rattle.sizes.specs.Lengths.{basis_length}
use Rattle.sets.specs.Answer.{answer_length}
use Rattle.sets.specs.Set.{SetAnswered}
use Rattle.sets.proofs.Alone.{set_full}
use Rattle.sets.proofs.Sets.answer_sets.Goals as goal
use Rattle.sets.proofs.Sets.answer_sets.Goals.{In-loop-j}

-- set j's part of w words
in_part : (c : In-loop-j) (w : ℕ) → c.loop-j.j * w + w ≤ c.args.self.now.count * w
in_part c w = part_fits c.args.self.now.count w c.loop-j.j (omega arith)

-- its part of the bases
in_bases : (c : In-loop-j) → let size = basis_length c.args.self.now.n c.args.self.now.s in
    c.loop-j.j * size + size ≤ length c.loop-j.bases
in_bases c = omega (arith, in_part c (basis_length c.args.self.now.n c.args.self.now.s))

in_answers : (c : In-loop-j) → c.loop-j.j * answer_length + answer_length ≤ length c.loop-j.answers
in_answers c = omega (arith, in_part c answer_length)

pub overflow_add-start : goal.overflow_add-start
overflow_add-start c = omega (arith, in_bases c)

pub slice_bounds-answer_set-end : goal.slice_bounds-answer_set-end
slice_bounds-answer_set-end c = omega (arith, in_bases c)

pub loop-j-preserved : goal.loop-j-preserved
loop-j-preserved c =
    let place = (goal.at.loop-j-preserved c).In-loop-j in
    let sets = c.args.self.now in
    let l = c.loop-j in
    let size = basis_length sets.n sets.s in
    let left = c.answer_set.new.basis in
    let words = c.answer_set.new.words in
    let set : SetAnswered sets.field.modulus sets.n sets.s sets.d.now (part (sets.n * sets.s) l.j sets.series.now) (part size l.j c.args.bases.now) left words =
    rw (lent size l.j l.bases, l.invariant.1.left l.j (omega arith)) at c.answer_set.ensures in
    let full = set_full set (part_length size l.j c.args.bases.now (omega (arith, in_part place size))) in (
      put_length answer_length l.j l.answers words (in_answers place) full.1 ∙ l.invariant.0,
      parts_turn_two size answer_length
          (λ k part-k words-k. SetAnswered sets.field.modulus sets.n sets.s sets.d.now (part (sets.n * sets.s) k sets.series.now) (part size k c.args.bases.now) part-k words-k)
          c.args.bases.now l.bases left l.answers words l.j (in_bases place) full.0 (in_answers place) full.1 set l.invariant.1,
    )
