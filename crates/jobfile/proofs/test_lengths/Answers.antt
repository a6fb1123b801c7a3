-- The lent buffers are tested first, then the length of the file.
use Rattle.std.proofs.Common.{Ok, Err, inl, inr}
use Rattle.field.specs.declared.Refusal.{Refusal}
use Rattle.field.proofs.Tests.{here, later, no_more}
use Rattle.field.proofs.Truth.{fails, no_either, exact}
use Rattle.jobfile.proofs.test_lengths.Goals as goal

pub returns-then-d-ne-TYPE_WORDS : goal.returns-then-d-ne-TYPE_WORDS
returns-then-d-ne-TYPE_WORDS c = here _ _ Refusal.Length (elim c.then-d-ne-TYPE_WORDS.either [ inl h ↦ inl h | inr h ↦ inr h.1 ])

pub returns-then-is_bad_length : goal.returns-then-is_bad_length
returns-then-is_bad_length c =
    later _ _ (Err Refusal.FileLength) (no_either (exact c.if-d-ne-TYPE_WORDS.false) (exact c.if-series-ne-SERIES_WORDS.false))
    (here _ _ Refusal.FileLength (c.is_bad_length.ensures.0 c.if-is_bad_length.true))

pub returns : goal.returns
returns c =
    later _ _ (Ok _) (no_either (exact c.if-d-ne-TYPE_WORDS.false) (exact c.if-series-ne-SERIES_WORDS.false))
    (later _ _ (Ok _) (fails _ c.is_bad_length.ensures c.if-is_bad_length.false) (no_more _))
