-- A fold over the words adds them in turn.
use Rattle.std.proofs.Common.{rules, ◌∙◌}
use Rattle.block.specs.Checks.{added}
use Rattle.block.proofs.Sums.{fold_summed}
use Rattle.block.proofs.checks_over.Goals as goal

pub returns : goal.returns
returns g c =
    let run = c.fold.ensures.runs in
    (run.0, run.1, run.2, run.3 added (λ x y r f h. search rules) ∙ fold_summed run.0.items)
