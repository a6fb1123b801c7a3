-- `put_shifted` meets its contract, by the sign.
use mathlib.Core.List.{[], ◌∷◌}
use mir.Syntax.{w64}
use mir.Val.{SFits}
use borrow.Author.Rules.{rules}
use Rattle.report.proofs.Signed.{signed_negative, signed_natural}
use Rattle.report.proofs.Appended.{first, rest, both}
use Rattle.report.proofs.Writer.put_shifted.Goals as goal
use Rattle.report.proofs.Writer.put_shifted.Goals.{then-shifted-lt0, else-shifted-lt0}

pub put-requires : goal.put-requires
put-requires c =
    let f : SFits w64 c.args.shifted.0 = search rules in
    let e = signed_negative _ f c.if-shifted-lt0.true in
    first (45 ∷ []) _ c.args.self.now (rw e at c.requires)

pub put_decimal-requires : goal.put_decimal-requires
put_decimal-requires c =
    let f : SFits w64 c.args.shifted.0 = search rules in
    elim c.if-shifted-lt0.branch [
      | then-shifted-lt0 w ↦
          let e = signed_negative _ f w.if-shifted-lt0.true in
          rw (c.unsigned_abs.ensures.value, w.self-is) (rest w.put.ensures (rw e at c.requires))
      | else-shifted-lt0 w ↦
          let e = signed_natural _ f w.if-shifted-lt0.false in
          rw (c.unsigned_abs.ensures.value, w.self-is) (rw e at c.requires)
    ]

pub returns : goal.returns
returns c =
    let f : SFits w64 c.args.shifted.0 = search rules in
    let done = rw c.unsigned_abs.ensures.value at c.put_decimal.ensures in
    elim c.if-shifted-lt0.branch [
      | then-shifted-lt0 w ↦
          let e = signed_negative _ f w.if-shifted-lt0.true in
          rw e (both w.put.ensures (rw w.self-is at done))
      | else-shifted-lt0 w ↦
          let e = signed_natural _ f w.if-shifted-lt0.false in
          rw e (rw w.self-is at done)
    ]
