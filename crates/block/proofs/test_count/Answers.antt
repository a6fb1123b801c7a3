-- The count of blocks is tested first, then the spare words, which then lie in the file.
use Rattle.std.proofs.Common.{Ok, Err, sym, ◌∙◌, arith}
use Rattle.field.specs.declared.Refusal.{Refusal}
use Rattle.field.proofs.Tests.{here, later, no_more}
use Rattle.field.proofs.Truth.{exact}
use Rattle.block.specs.Count.{spare_from}
use Rattle.block.proofs.Payload.{spare_some, spare_zero}
use Rattle.block.proofs.Whole.{count_fits}
use Rattle.block.proofs.test_count.Goals as goal

pub returns-then-blocks-blocks_for : goal.returns-then-blocks-blocks_for
returns-then-blocks-blocks_for c = here _ _ Refusal.BlockCount (λ e. c.if-blocks-blocks_for.true (e ∙ sym c.blocks_for.ensures))

pub overflow_sub-blocks : goal.overflow_sub-blocks
overflow_sub-blocks c =
    let args = c.args in
    count_fits args.file.now args.count (c.if-blocks-blocks_for.false ∙ c.blocks_for.ensures)

pub any_payload_from-requires : goal.any_payload_from-requires
any_payload_from-requires c =
    let args = c.args in
    omega (arith, count_fits args.file.now args.count (c.if-blocks-blocks_for.false ∙ c.blocks_for.ensures))

pub returns-then-any_payload_from : goal.returns-then-any_payload_from
returns-then-any_payload_from c =
    let args = c.args in
    later _ _ (Err Refusal.SpareWord) (exact (c.if-blocks-blocks_for.false ∙ c.blocks_for.ensures))
    (here _ _ Refusal.SpareWord (spare_some (spare_from args.file.now args.count) (c.any_payload_from.ensures.0 c.if-any_payload_from.true)))

pub returns : goal.returns
returns c =
    let args = c.args in
    later _ _ (Ok tt) (exact (c.if-blocks-blocks_for.false ∙ c.blocks_for.ensures))
    (later _ _ (Ok tt) (spare_zero (spare_from args.file.now args.count) _ c.any_payload_from.ensures c.if-any_payload_from.false) (no_more tt))
