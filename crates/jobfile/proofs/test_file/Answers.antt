-- The lengths, then the blocks in turn, then the words.
use Rattle.std.proofs.Common.{length, Err, arith}
use Rattle.std.proofs.lemmas.Result.{err_from_is_err_and}
use Rattle.field.proofs.Tests.{passed, and_then, and_stop}
use Rattle.block.proofs.Length.{GoodLength}
use Rattle.jobfile.specs.Lengths.{file_bytes}
use Rattle.jobfile.proofs.Passed.{lengths_fit}
use Rattle.jobfile.proofs.test_file.Goals as goal
use Rattle.jobfile.proofs.test_file.Goals.{In_ok-test_lengths}

good : (c : In_ok-test_lengths) → GoodLength file_bytes (length c.args.file.now)
good c = (lengths_fit _ _ _ (passed _ _ c.in_ok-test_lengths.ensures)).good

pub test_blocks-requires : goal.test_blocks-requires
test_blocks-requires c = let fit = good c in record { file_length = fit.whole; numbers = omega (arith, fit.few) }

pub test_words-requires : goal.test_words-requires
test_words-requires c = (good (goal.at.test_words-requires c).In_ok-test_lengths).some

pub returns-in_err-test_lengths : goal.returns-in_err-test_lengths
returns-in_err-test_lengths c =
    let p = err_from_is_err_and c.from_residual.result c.from_residual.ensures.1 in
    rw (p.1, p.2) (and_stop _ _ _ c.in_err-test_lengths.ensures)

pub returns-in_err-test_blocks : goal.returns-in_err-test_blocks
returns-in_err-test_blocks c =
    let p = err_from_is_err_and c.from_residual-in_err-test_blocks.result c.from_residual-in_err-test_blocks.ensures.1 in
    rw (p.1, p.2) (and_then _ _ _ (Err _) c.in_ok-test_lengths.ensures (and_stop _ _ _ c.in_err-test_blocks.ensures))

pub returns : goal.returns
returns c = and_then _ _ _ c.test_words.result c.in_ok-test_lengths.ensures (and_then _ _ _ c.test_words.result c.in_ok-test_blocks.ensures c.test_words.ensures)
