-- `test_basis` meets its contract: the tests stand in the order of the refusals.
use Rattle.std.proofs.Common.{◌⊎◌, ◌<◌, ◌≤◌, Ok, Err, inl, inr, arith}
use Rattle.std.proofs.lemmas.Grind.{common_steps}
use Rattle.field.specs.declared.Refusal.{Refusal}
use Rattle.field.proofs.Tests.{here, later, no_more}
use Rattle.field.proofs.Truth.{no_either, exact}
use Rattle.report.proofs.test_basis.Goals as goal
use Rattle.report.proofs.test_basis.Goals.{Else-not-contains, then-types-rows-via-then-types-rows, then-types-rows-via-else-types-rows+then-words-rows, then-types-rows-via-else-types-rows+else-words-rows+then-bytes-ne-TEXT}

counted : (c : Else-not-contains) → ¬ ((c.args.n < 1) ⊎ (8 < c.args.n))
counted c =
    let some : 1 ≤ c.args.n = grind (arith, common_steps) in
    let few : c.args.n ≤ 8 = grind (arith, common_steps) in
    no_either (omega arith) (omega arith)

pub returns-then-not-contains : goal.returns-then-not-contains
returns-then-not-contains c = here _ _ Refusal.Count (grind (arith, common_steps))

pub returns-then-s-gt255 : goal.returns-then-s-gt255
returns-then-s-gt255 c =
    later _ _ (Err Refusal.Order) (counted (goal.at.returns-then-s-gt255 c).Else-not-contains) (here _ _ Refusal.Order c.if-s-gt255.true)

pub returns-then-types-rows : goal.returns-then-types-rows
returns-then-types-rows c =
    later _ _ (Err Refusal.Length) (counted (goal.at.returns-then-types-rows c).Else-not-contains) (later _ _ (Err Refusal.Length) (omega arith) (here _ _ Refusal.Length (elim c.then-types-rows.branch [
      | then-types-rows-via-then-types-rows w ↦ inl w.if-types-rows.true
      | then-types-rows-via-else-types-rows+then-words-rows w ↦ inr (inl w.if-words-rows.true)
      | then-types-rows-via-else-types-rows+else-words-rows+then-bytes-ne-TEXT w ↦ inr (inr w.if-bytes-ne-TEXT.true)
    ])))

pub returns : goal.returns
returns c =
    later _ _ (Ok _) (counted (goal.at.returns c).Else-not-contains) (later _ _ (Ok _) (omega arith)
    (later _ _ (Ok _) (no_either (exact c.if-types-rows.false) (no_either (exact c.if-words-rows.false) (exact c.if-bytes-ne-TEXT.false))) (no_more _)))
