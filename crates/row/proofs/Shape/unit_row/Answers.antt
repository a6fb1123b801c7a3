-- `Shape::unit_row` meets its contract: the row is cleared, and its one word is set.
use mathlib.Core.Path.{◌∙◌}
use native.Mathlib.Omega.{arith}
use lib.ListN.{length, length-set}
use Rattle.words.specs.Polynomial.{poly}
use Rattle.row.proofs.Unit.{zero_word, unit_words}
use Rattle.row.proofs.Shape.unit_row.Goals as goal

pub returns : goal.returns
unfolding poly
returns c =
    let n = c.args.self.now.n in
    let w = c.args.self.now.width in
    let zeros = c.fill.ensures in
    let cleared = zeros.after (λ y h. h) in
    (simp length-set zeros.len, unit_words n w c.args.i c.fill.new.self (zeros.len ∙ c.requires.2) (omega arith) (omega arith) (λ t. rw cleared (zero_word (length c.args.row.now) t)))
