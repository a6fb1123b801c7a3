-- The answer's two numbers are small: the row is below 8, and at most s orders are counted.
use native.Mathlib.Omega.{arith}
use Rattle.solve.proofs.Work.{count_le}
use Rattle.engine.proofs.answered.Goals as goal

pub overflow_cast-result-2 : goal.overflow_cast-result-2
overflow_cast-result-2 c = omega (arith, count_le c.solve-w.ensures.shrinks, c.args.problem.short)
