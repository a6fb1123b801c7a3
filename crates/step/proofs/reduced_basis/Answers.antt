-- `reduced_basis` meets its contract: before each turn the rows are the reduced minimal basis of V_at, and the answer ends at row n. A row fits the working rows.
use mathlib.Core.Path.{◌≡◌, sym, ◌∙◌}
use native.Mathlib.Omega.{arith}
use Rattle.relation.proofs.Basis.{basis_ext}
use Rattle.relation.proofs.Start.{start}
use Rattle.step.proofs.Next.{no_degrees}
use Rattle.step.proofs.reduced_basis.Goals as goal

pub loop-at-init : goal.loop-at-init
loop-at-init c =
    let made = c.identity.ensures in record {
      full = made.0 ∙ c.requires;
      reduced = basis_ext (λ l h. sym (made.1 l h)) (λ l h. sym (no_degrees 8 l)) (start _ _ _ _ c.args.problem.prime);
      ends = λ l h. no_degrees 8 l;
    }

pub returns : goal.returns
returns c =
    let l = c.loop-at in
    let e : l.at ≡ c.args.problem.s = omega arith in
    (l.invariant.full ∙ sym c.requires, rw e at l.invariant.reduced, l.invariant.ends)
