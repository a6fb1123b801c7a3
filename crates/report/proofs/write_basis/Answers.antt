-- `write_basis` meets its contract.
use Rattle.std.proofs.Common.{ℕ, ◌^◌, ◌<◌, List, length, refl, rules, arith}
use Rattle.std.proofs.lemmas.Result.{err_from_is_err_and}
use Rattle.field.proofs.Tests.{passed, answers, refuses}
use Rattle.report.specs.Calls.{BasisTextOutcome}
use Rattle.report.specs.Text.{basis_text}
use Rattle.report.specs.Wrote.{Room}
use Rattle.report.proofs.Bound.{Words, basis_fits}
use Rattle.report.proofs.Calls.{Passed, basis_passed}
use Rattle.report.proofs.Wrote.{wrote_answer}
use Rattle.report.proofs.write_basis.Goals as goal
use Rattle.report.proofs.write_basis.Goals.{In_ok-test_basis}

-- where the tests pass, the text fits
room : (p n s : ℕ) (d basis : List ℕ) (i : ℕ) (out : List ℕ) → p < 2 ^ 32 → i < 2 ^ 32 → Words d → Words basis
    → Passed n s (length d) (length basis) (length out) → Room (basis_text p n s d basis i) out 0
room p n s d basis i out hp hi wd wb b = record {
  fits = omega (arith, b.room, basis_fits p n s d basis i hp b.rows b.order hi b.typed b.filled wd wb);
}

passes : (c : In_ok-test_basis) →
    let a = c.args in
    Words a.d.now → Words a.basis.now
    → Passed a.n a.s (length a.d.now) (length a.basis.now) (length a.out.now) × Room (basis_text a.p a.n a.s a.d.now a.basis.now a.least) a.out.now 0
passes c typed filled =
    let a = c.args in
    let b = basis_passed _ _ _ _ _ (passed _ _ c.in_ok-test_basis.ensures) in
    (b, room a.p a.n a.s a.d.now a.basis.now a.least a.out.now c.ranges.p.fits c.ranges.least.fits typed filled b)

pub put_basis-requires : goal.put_basis-requires
put_basis-requires c =
    let b = passes (goal.at.put_basis-requires c).In_ok-test_basis (λ k. (c.type_inv.d k).fits) (λ k. (c.type_inv.basis k).fits) in
    (b.0.some, b.0.rows, b.0.order, b.0.typed, b.0.filled, b.1)

pub returns-in_err-test_basis : goal.returns-in_err-test_basis
unfolding BasisTextOutcome
returns-in_err-test_basis c =
    let p = err_from_is_err_and c.from_residual.result c.from_residual.ensures.1 in
    rw (p.1, p.2) (refuses _ _ _ _ c.in_err-test_basis.ensures (refl, refl))

pub returns : goal.returns
unfolding BasisTextOutcome
returns c =
    let b = passes (goal.at.returns c).In_ok-test_basis (λ k. (c.type_inv.d k).fits) (λ k. (c.type_inv.basis k).fits) in
    answers _ _ _ _ c.in_ok-test_basis.ensures (wrote_answer b.1 (search rules))
