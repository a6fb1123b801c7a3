-- The sum of the entries, each with 1 added, is from 1 to 256 for each.
use Rattle.std.proofs.Common.{◌∙◌, ap, length, ◌-◌, ℕ, arith}
use Rattle.engine.proofs.Sigma.{all_words, word_sum_small, order_of_words}
use Rattle.engine.proofs.order_of.Goals as goal

pub returns : goal.returns
returns c =
    let d = c.args.d.now in
    let sum = c.word_sum.ensures ∙ all_words d in
    (ap (λ (x : ℕ). x - 1) sum ∙ order_of_words (length d) d (omega arith), omega (arith, sum, word_sum_small (length d) d c.requires.2))
