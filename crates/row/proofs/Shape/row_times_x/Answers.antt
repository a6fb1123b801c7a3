-- `Shape::row_times_x` meets its contract: the first k entries are those of X times the row.
use mathlib.Core.Path.{sym, ◌∙◌}
use Prim.Native.Nat.{◌-◌}
use native.Mathlib.Omega.{arith}
use Rattle.row.specs.View.{vector}
use Rattle.row.proofs.Part.{lent_poly, row_ext, vector_out}
use Rattle.words.proofs.Part.{part_fits, lent, lent_length}
use Rattle.words.proofs.Written.{parts_turn}
use Rattle.row.proofs.TimesX.{times_x_entry, times_x_zero}
use Rattle.row.proofs.Shape.row_times_x.Goals as goal

pub times_x-requires : goal.times_x-requires
unfolding vector
times_x-requires c =
    let l = c.loop-k in
    let n = c.args.self.now.n in
    let w = c.args.self.now.width in
    let fits = part_fits n w l.k (omega arith) in
    let full = lent_length w l.k c.args.row.now (omega arith) in (
      omega arith,
      lent_length w l.k l.into (omega arith) ∙ sym full,
      rw full (lent_poly w l.k c.args.row.now (w - 1) ∙ c.requires.room l.k (omega arith)),
    )

pub loop-k-preserved : goal.loop-k-preserved
unfolding vector
loop-k-preserved c =
    let moved = c.times_x in
    let l = c.loop-k in
    let w = c.args.self.now.width in
    let row = c.args.row.now in
    let fits = part_fits c.args.self.now.n w l.k (omega arith) in
    parts_turn w _ _ l.into moved.new.into l.k (omega arith)
    (moved.ensures.0 ∙ lent_length w l.k l.into (omega arith))
    (λ t. moved.ensures.1 t ∙ rw (lent w l.k row) (times_x_entry (vector w row) l.k t))
    l.invariant

pub returns : goal.returns
returns c =
    let l = c.loop-k in
    let n = c.args.self.now.n in
    let w = c.args.self.now.width in
    let row = c.args.row.now in (
      l.invariant.same,
      row_ext n w l.into _ (omega arith) (λ k h. l.invariant.done k (omega arith))
          (λ k t h. times_x_zero (vector w row) k (λ t. vector_out n w row (omega arith) k t h) t),
    )
