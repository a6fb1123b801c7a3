-- The count of words is tested first, so that the words whose bounds are tested lie in the file; then the type entries, then the coefficients.
use Rattle.std.proofs.Common.{◌*◌, ◌≤◌, Result, Ok, Err, arith}
use Rattle.std.proofs.lemmas.Result.{err_from_is_err_and}
use Rattle.field.specs.declared.Refusal.{Refusal}
use Rattle.field.proofs.Tests.{passed, here, later, no_more, and_then, and_stop}
use Rattle.field.proofs.Truth.{fails}
use Rattle.words.proofs.Sizes.{series_small}
use Rattle.sizes.proofs.Entry.{some_outside}
use Rattle.block.specs.Part.{blocks_in}
use Rattle.block.proofs.Whole.{count_fits, counted}
use Rattle.field.specs.Calls.{Tests}
use Rattle.jobfile.specs.Orders.{bound_tests, content_tests}
use Rattle.jobfile.specs.Layout.{word_count}
use Rattle.jobfile.specs.Payload.{type_in}
use Rattle.jobfile.proofs.test_contents.Goals as goal
use Rattle.jobfile.proofs.test_contents.Goals.{Start, In_ok-test_count}

few : (c : Start) → c.args.sizes.n * c.args.sizes.s ≤ 2040
few c = series_small _ _ c.requires.0 c.requires.1

-- the words whose bounds are tested lie in the file
in_file : (c : In_ok-test_count) → word_count c.args.sizes.n c.args.sizes.s ≤ 125 * blocks_in c.args.file.now
in_file c = let file = c.args.file.now in count_fits file _ (counted file _ (passed _ _ c.in_ok-test_count.ensures))

-- the count is right, and the bounds are tested
counted_and : (c : In_ok-test_count) (t : Result Unit Refusal)
    → Tests (bound_tests c.args.file.now c.args.sizes.p c.args.sizes.n c.args.sizes.s) t
    → Tests (content_tests c.args.file.now c.args.sizes.p c.args.sizes.n c.args.sizes.s) t
counted_and c t h = and_then _ _ _ t c.in_ok-test_count.ensures h

pub returns-in_err-test_count : goal.returns-in_err-test_count
returns-in_err-test_count c =
    let p = err_from_is_err_and c.from_residual.result c.from_residual.ensures.1 in
    rw (p.1, p.2) (and_stop _ _ _ c.in_err-test_count.ensures)

pub any_payload_from-requires : goal.any_payload_from-requires
any_payload_from-requires c = let h = in_file c in omega arith

pub any_payload_from-requires-2 : goal.any_payload_from-requires-2
any_payload_from-requires-2 c = let h = in_file (goal.at.any_payload_from-requires-2 c).In_ok-test_count in omega arith

pub returns-then-any_payload_from : goal.returns-then-any_payload_from
returns-then-any_payload_from c =
    let a = c.args in
    counted_and (goal.at.returns-then-any_payload_from c).In_ok-test_count (Err Refusal.Entry)
    (here _ _ Refusal.Entry ((some_outside (type_in a.file.now a.sizes.n)).0 (c.any_payload_from.ensures.0 c.if-any_payload_from.true)))

pub returns-then-any_payload_from-2 : goal.returns-then-any_payload_from-2
returns-then-any_payload_from-2 c =
    let a = c.args in
    counted_and (goal.at.returns-then-any_payload_from-2 c).In_ok-test_count (Err Refusal.Coefficient)
    (later _ _ (Err Refusal.Coefficient) (λ o. fails _ c.any_payload_from.ensures c.if-any_payload_from.false ((some_outside (type_in a.file.now a.sizes.n)).1 o))
    (here _ _ Refusal.Coefficient (c.any_payload_from-2.ensures.0 c.if-any_payload_from-2.true)))

pub returns : goal.returns
returns c =
    let a = c.args in
    counted_and (goal.at.returns c).In_ok-test_count (Ok tt)
    (later _ _ (Ok tt) (λ o. fails _ c.any_payload_from.ensures c.if-any_payload_from.false ((some_outside (type_in a.file.now a.sizes.n)).1 o))
    (later _ _ (Ok tt) (fails _ c.any_payload_from-2.ensures c.if-any_payload_from-2.false) (no_more tt)))
