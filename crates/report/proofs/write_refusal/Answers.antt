-- `write_refusal` meets its contract.
use mathlib.Core.Path.{◌≡◌, refl}
use mathlib.Core.Logic.{inl, inr}
use mathlib.Core.List.{List}
use Prim.Native.Nat.{ℕ, ◌^◌, ◌<◌}
use lib.ListN.{length}
use borrow.Author.Rules.{rules}
use native.Mathlib.Omega.{arith}
use Rattle.field.specs.Refusal.{NoTest, First, Outcome}
use Rattle.report.specs.Calls.{RefusalTextOutcome, text_bytes}
use Rattle.report.specs.Text.{refusal_text}
use Rattle.report.specs.Wrote.{Room}
use Rattle.report.proofs.Bound.{refusal_fits}
use Rattle.report.proofs.Wrote.{wrote_answer}
use Rattle.report.proofs.write_refusal.Goals as goal

-- the text fits a buffer of the stated length
room : (k : ℕ) (out : List ℕ) → k < 2 ^ 32 → length out ≡ text_bytes → Room (refusal_text k) out 0
room k out h e = record { fits = omega (arith, refusal_fits k h) }

pub returns-then-out-ne-TEXT : goal.returns-then-out-ne-TEXT
unfolding RefusalTextOutcome Outcome First
returns-then-out-ne-TEXT c = inr (4, inl (c.if-out-ne-TEXT.true, refl), (refl, refl))

pub put_numbered-requires : goal.put_numbered-requires
unfolding refusal_text
put_numbered-requires c =
    room c.args.k c.args.out.now c.ranges.k.fits (omega arith)

pub returns : goal.returns
unfolding RefusalTextOutcome Outcome NoTest refusal_text
returns c =
    inl (((λ h. h c.if-out-ne-TEXT.false), tt), wrote_answer (room c.args.k c.args.out.now c.ranges.k.fits (omega arith)) (search rules))
