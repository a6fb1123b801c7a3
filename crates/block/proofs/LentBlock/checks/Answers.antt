-- The words that are added are those of the block.
use Rattle.std.proofs.Common.{rules, ◌∙◌, ap, map}
use Rattle.block.specs.Word.{word_at}
use Rattle.block.specs.Checks.{checks_of}
use Rattle.block.proofs.Sums.{range_items, summed_table}
use Rattle.block.proofs.LentBlock.checks.Goals as goal

pub returns : goal.returns
unfolding checks_of
returns c =
    let run = c.checks_over.ensures in
    let mapped = c.map.ensures.runs run.0 run.0.seen run.1 in
    let w = word_at c.args.self.bytes.now in
    let range = range_items mapped.0 126 mapped.1 (mapped.2.0 ∙ run.2) in
    run.3 ∙ summed_table w 126 run.0.items (mapped.2.3 w (λ x r f k. search rules) ∙ ap (map w) range)
