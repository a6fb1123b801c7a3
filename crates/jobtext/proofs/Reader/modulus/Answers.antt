-- `modulus` meets its contract: the number is taken and tested.
use mathlib.Core.Path.{◌≡◌, ◌∙◌}
use mathlib.Core.Bool.{Bool, true}
use mathlib.Core.Logic.{◌↔◌}
use Prim.Native.Nat.{ℕ}
use Rattle.std.proofs.lemmas.Result.{err_from_is_err_and}
use Rattle.field.specs.Modulus.{Modulus}
use Rattle.field.specs.ModulusTest.{is_modulus}
use Rattle.field.proofs.ModulusTest.{modulus_test}
use Rattle.field.proofs.Unique.{test_unique}
use Rattle.jobtext.proofs.Reading.{passes, fails, stops}
use Rattle.jobtext.proofs.Reader.modulus.Goals as goal

-- the definition's test gives what the code's does
same_test : (p : ℕ) (t : Bool) → (t ≡ true) ↔ Modulus p → is_modulus p ≡ t
same_test p t i = test_unique (is_modulus p) t (modulus_test p) i

pub returns-in_err-p : goal.returns-in_err-p
returns-in_err-p c =
    let p = err_from_is_err_and c.from_residual.result c.from_residual.ensures.1 in
    rw (p.1, p.2) (stops _ _ _ _ _ _ c.in_err-p.ensures)

pub returns-then-admits : goal.returns-then-admits
returns-then-admits c = passes _ _ _ _ _ _ c.in_ok-p.ensures (same_test _ _ c.admits.ensures ∙ c.if-admits.true)

pub returns-else-admits : goal.returns-else-admits
returns-else-admits c = rw c.fault.ensures (fails _ _ _ _ _ _ c.in_ok-p.ensures (same_test _ _ c.admits.ensures ∙ c.if-admits.false))
