-- `argument` meets its contract: past the end of the numbers there is nothing to take.
use mathlib.Core.Path.{sym}
use native.Mathlib.Omega.{arith}
use Rattle.request.specs.Argument.{argument_of}
use Rattle.request.proofs.Clipped.{clipped}
use Rattle.request.proofs.Arguments.argument.Goals as goal

pub returns : goal.returns
unfolding argument_of
returns c =
    let from = c.start_of.ensures in
    let to = c.end_at.ensures in
    rw (sym from, sym to) (clipped c.args.self.now.values.now _ _ _ _ (λ h. omega arith) (λ h. omega arith) (λ h. omega arith) (λ h. omega arith))
