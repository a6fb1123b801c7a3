-- The reduced basis, its least row, and the sum of its pivot degrees, which is the count. All flags of the search are 1, so that it finds a row.
use mathlib.Core.Path.{◌≡◌, ◌∙◌}
use Prim.Native.Nat.{ℕ, ◌≤◌, ◌<◌}
use native.Mathlib.Omega.{arith}
use Rattle.relation.specs.Sum.{sum_to}
use Rattle.row.specs.View.{degree_at}
use Rattle.step.proofs.Order.{type_offset}
use Rattle.solve.proofs.Search.{least_of_all, one_is_least, one_each}
use Rattle.solve.proofs.Work.{tops_within, sum_of_tops, sum_small, found_of}
use Rattle.solve.proofs.solve.Goals as goal
use Rattle.solve.proofs.solve.Goals.{After-reduced_basis-tops}

within : (c : After-reduced_basis-tops) (l : ℕ) → l < c.args.problem.n → degree_at c.reduced_basis-tops.result l ≤ 255
within c = tops_within c.args.problem.prime c.args.problem.short c.reduced_basis-tops.ensures.1

pub least_row-requires : goal.least_row-requires
least_row-requires c = rw c.args.problem.types.count (c.args.problem.few, c.args.problem.types, within (goal.at.least_row-requires c).After-reduced_basis-tops)

pub unwrap-requires : goal.unwrap-requires
unwrap-requires c = one_is_least _ _ _ _ (rw c.args.problem.types.count at c.least_row.ensures) (λ l hl. one_each l (omega (arith, c.args.problem.few))) (omega arith)

pub pivot_sum-requires : goal.pivot_sum-requires
pivot_sum-requires c =
    let n = c.args.problem.n in
    let tops = c.reduced_basis-tops.result in
    rw (sum_of_tops n tops (omega (arith, c.args.problem.few))) (omega (arith, sum_small n (degree_at tops) (within (goal.at.pivot_sum-requires c).After-reduced_basis-tops), c.args.problem.few))

pub returns : goal.returns
returns c =
    let problem = c.args.problem in
    let tops = c.reduced_basis-tops.result in
    let basis = c.reduced_basis-tops.ensures in
    let least = least_of_all _ _ _ _ _ (rw problem.types.count at c.least_row.ensures) c.unwrap.ensures (λ l hl. one_each l (omega (arith, problem.few))) in
    let count : c.pivot_sum.result ≡ sum_to problem.n (degree_at tops) = c.pivot_sum.ensures ∙ sum_of_tops problem.n tops (omega (arith, problem.few)) in
    rw count (found_of problem.prime (type_offset problem.types) basis.1 (basis.0 ∙ c.requires.1) least.0 least.1)
