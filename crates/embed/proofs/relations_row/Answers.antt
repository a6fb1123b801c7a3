-- The start is i - 1 times the count, also where both are 0.
use mathlib.Core.Path.{refl, ap}
use Prim.Native.Nat.{ℕ, ◌*◌}
use native.Mathlib.Omega.{arith}
use lib.ListN.{length}
use Rattle.embed.proofs.Given.{given}
use Rattle.embed.proofs.RowAt.{view_small, row_said}
use Rattle.embed.proofs.relations_row.Goals as goal

pub overflow_mul-start : goal.overflow_mul-start
overflow_mul-start c = rw c.saturating_sub.ensures (omega (arith, (view_small c.row_view-count.ensures).1))

pub overflow_cast-start : goal.overflow_cast-start
overflow_cast-start c = rw c.saturating_sub.ensures (omega (arith, (view_small c.row_view-count.ensures).1))

pub overflow_cast-count : goal.overflow_cast-count
overflow_cast-count c = omega (arith, (view_small c.row_view-count.ensures).0)

pub returns : goal.returns
returns c =
    given _ _ _ _ _ _ _ c.if-answer-ne-ROW_ANSWER_LENGTH.false (row_said c.row_view-count.ensures _ (ap (λ (k : ℕ). k * length c.row_view-count.result.now) c.saturating_sub.ensures)) (refl, c.copy_from_slice.ensures.after)
