-- The least row of the two series' basis is the pair.
use Rattle.std.proofs.Common.{arith}
use Rattle.pade.proofs.Series.{series_are}
use Rattle.pade.proofs.Least.{least_pair}
use Rattle.pade.proofs.Request.least_row.Goals as goal

pub returns : goal.returns
returns c =
    let p = c.args.self.field.modulus in
    let g = c.args.self.g.now in
    let z = c.args.self.sizes in
    least_pair z (rw c.copy_from_slice.ensures.after (series_are p g (omega (arith, z.k_from, z.k_to)) z.n_to)) c.solve.ensures
