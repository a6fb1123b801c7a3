-- `nearer` meets its contract: the rows are compared by their shifted degrees alone.
use mathlib.Core.Path.{◌≡◌, refl, sym, ◌∙◌}
use mathlib.Core.Logic.{inl, inr}
use Prim.Native.Nat.{ℕ, ◌+◌}
use native.Mathlib.Omega.{arith}
use lib.Dec.{ltb}
use Rattle.row.specs.View.{degree_at}
use borrow.Author.Tests.{ltb-true, ltb-false}
use Rattle.step.specs.Offset.{offset_of}
use Rattle.step.proofs.Order.{less_is_below, below_offset}
use Rattle.step.proofs.nearer.Goals as goal
use Rattle.step.proofs.nearer.Goals.{After-lt}

-- the answer of the comparison, by the degrees with their offsets added
compared : (c : After-lt)
    → let v : ℕ → ℕ = λ k. degree_at c.args.tops k + offset_of c.args.d.now k in
    c.lt.result ≡ ltb (v c.args.l) (v c.in-Some.best)
compared c =
    let best = c.in-Some.best in
    c.lt.ensures
    ∙ less_is_below c.of-new.result.0 c.of-old.result.0
    ∙ rw (c.of-new.ensures, c.of-old.ensures)
    (below_offset c.requires.3 c.args.l (degree_at c.args.tops c.args.l) best (degree_at c.args.tops best) (omega arith) (rw c.in-Some.is at c.requires.2))

pub returns-then-lt : goal.returns-then-lt
returns-then-lt c = rw c.in-Some.is (inl (ltb-true _ _ (sym (compared (goal.at.returns-then-lt c).After-lt) ∙ c.if-lt.true), refl))

pub returns-else-lt : goal.returns-else-lt
returns-else-lt c = rw c.in-Some.is (inr (ltb-false _ _ (sym (compared (goal.at.returns-else-lt c).After-lt) ∙ c.if-lt.false), refl))
