-- The remainder falls, and from the numbers for divisor and remainder step_up of proofs/Coprime makes those for a and b.
use Rattle.std.proofs.Common.{mod-lt, arith}
use Rattle.field.proofs.Coprime.{coprime_step, remainder_pos, step_up}
use Rattle.field.proofs.+euclid.Goals as goal

pub euclid-e-requires : goal.euclid-e-requires
euclid-e-requires t c =
    let r = mod-lt c.args.a c.requires.0 in
    let pos = remainder_pos _ _ c.requires.2 c.if-b-eq1.false in
    (omega arith, (pos, r, coprime_step _ _ c.requires.2))

pub returns : goal.returns
returns t c = step_up _ _ _ _ (omega arith) c.euclid-e.ensures
