-- Some word of the part is one that the range came to.
use Rattle.std.proofs.Common.{◌≤◌, ◌<◌, ◌+◌, refl, rules, arith}
use borrow.Author.Tests.{tests}
use Rattle.std.proofs.lemmas.Iterator.{YieldsList-from_range, cases_from_any}
use Rattle.block.specs.Part.{payload_at}
use Rattle.block.proofs.Payload.{part_any}
use Rattle.block.proofs.any_payload_from.Goals as goal

pub returns : goal.returns
returns c =
    let args = c.args in
    part_any args.file.now args.from args.count args.bound c.any.result
    (cases_from_any _ _ c.any.result (λ k. args.bound ≤ payload_at args.file.now k) (λ k. payload_at args.file.now k < args.bound) c.any.ensures.ran
    (YieldsList-from_range args.from (args.from + args.count) args.count refl (omega arith)) (λ x q k. search (rules, tests)) (λ x q k. search (rules, tests)))
