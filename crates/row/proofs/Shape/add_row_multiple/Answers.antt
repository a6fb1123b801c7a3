-- `Shape::add_row_multiple` meets its contract: the factor's residue is added, and a multiple of p leaves words below p as they are.
use mathlib.Core.Path.{refl, sym, ◌∙◌, fun_ext}
use native.Mathlib.Nat.{mod-eq_of_lt}
use Rattle.field.proofs.Residue.{drop_mult, sum_mul_left}
use Rattle.relation.specs.Operations.{add_multiple}
use Rattle.row.proofs.Shape.add_row_multiple.Goals as goal

pub returns-then-a-ne0 : goal.returns-then-a-ne0
unfolding add_multiple
returns-then-a-ne0 c =
    let added = c.add_entries.ensures in
    (added.0, added.1 ∙ rw c.fixed.ensures.0 (fun_ext λ k. fun_ext λ t. sum_mul_left _ _ _ _))

pub returns-else-a-ne0 : goal.returns-else-a-ne0
unfolding add_multiple
returns-else-a-ne0 c = (refl, fun_ext λ k. fun_ext λ t. sym (drop_mult _ _ _ _ c.if-a-ne0.false ∙ mod-eq_of_lt (c.requires.residues k t)))
