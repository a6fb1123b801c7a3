-- `step` meets its contract: the row of least weight with a coefficient moves, and the theorem of the step applies.
use mathlib.Core.Path.{◌≡◌, refl}
use Prim.Native.Nat.{ℕ, ◌+◌, ◌-◌, ◌%◌, ◌<◌}
use native.Mathlib.Omega.{arith}
use lib.ListN.{get_or}
use Rattle.relation.specs.Product.{dot}
use Rattle.relation.specs.Moving.{FirstRow}
use Rattle.relation.proofs.Existence.{pivot_le, entry_short}
use Rattle.row.specs.View.{vector, row as row_of, degree_at}
use Rattle.step.specs.Offset.{row_weight}
use Rattle.step.proofs.Next.{shape, next_same, next_moved, raised, kept}
use Rattle.step.proofs.step.Goals as goal
use Rattle.step.proofs.step.Goals.{After-coefficients-c, In-Some}

-- an entry has one word more than a series
one_more : (s : ℕ) → s + 1 - 1 ≡ s
one_more s = omega arith

coefficient : (c : After-coefficients-c)
    → let problem = c.args.problem in
    (l : ℕ) → l < problem.n → get_or c.coefficients-c.result l 0 ≡ dot problem.n (row_of problem.n (problem.s + 1) c.args.basis.now l) (vector problem.s problem.series.now) c.args.at % problem.field.modulus
coefficient c = rw one_more at c.coefficients-c.ensures.0

first : (c : In-Some)
    → let problem = c.args.problem in
    FirstRow problem.n (λ l. get_or c.coefficients-c.result l 0) (row_weight problem.n problem.d.now c.args.tops.now) c.in-Some.i
first c = rw (c.in-Some.is, c.args.problem.types.count) at c.least_row.ensures

pub coefficients-c-requires : goal.coefficients-c-requires
coefficients-c-requires c =
    let problem = c.args.problem in
    record { sizes = (omega arith, omega (arith, problem.short), c.requires.sizes.1, rw one_more problem.full); rows_end = λ l h k hk t g. entry_short c.requires.reduced l k h hk t g }

pub least_row-requires : goal.least_row-requires
least_row-requires c =
    let problem = c.args.problem in
    rw problem.types.count (problem.few, problem.types, λ l h. omega (arith, pivot_le problem.prime c.requires.reduced.basis l h))

pub move_row-requires-clause-tops_below : goal.move_row-requires-clause-tops_below
move_row-requires-clause-tops_below c k h = omega (arith, pivot_le c.args.problem.prime c.requires.reduced.basis k h)

pub move_row-requires-clause-shape : goal.move_row-requires-clause-shape
move_row-requires-clause-shape c = shape c.args.problem.prime c.requires.reduced

pub overflow_add-tops : goal.overflow_add-tops
overflow_add-tops c =
    omega (arith, pivot_le c.args.problem.prime c.requires.reduced.basis _ (first (goal.at.overflow_add-tops c).In-Some).row<)

pub returns-in-Some : goal.returns-in-Some
returns-in-Some c =
    let moved = c.move_row.ensures in
    let i = c.in-Some.i in
    let tops = c.args.tops.now in
    let inside = first (goal.at.returns-in-Some c).In-Some in (
      moved.0,
      next_moved c.args.problem.prime c.requires.reduced _ (coefficient (goal.at.returns-in-Some c).After-coefficients-c) _ _ _ _ inside c.inverse.ensures moved.1
          (raised tops _ _ (omega (arith, inside.row<, c.args.problem.few)) refl)
          (λ l h ne. kept tops _ l (record { 0 = degree_at tops i + 1 }) ne),
      λ l h. kept tops _ l (record { 0 = degree_at tops i + 1 }) (omega (arith, inside.row<)),
    )

pub returns-in_default : goal.returns-in_default
returns-in_default c =
    let same = next_same c.args.problem.prime c.requires.reduced _ (coefficient (goal.at.returns-in_default c).After-coefficients-c) (rw (c.in_default.is, c.args.problem.types.count) at c.least_row.ensures) in
    (refl, same, λ l h. refl)
