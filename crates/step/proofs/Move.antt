-- The rows between the parts of a step: the cleared rows end where the rows did, the columns' sum does not see row i, and all parts together.
use mathlib.Core.Path.{◌≡◌, ap, sym, ◌∙◌, fun_ext}
use mathlib.Core.Logic.{◌≢◌}
use mathlib.Core.List.{List}
use Prim.Native.Nat.{ℕ, zero, suc, ◌+◌, ◌*◌, ◌%◌, ◌<◌, ◌≤◌}
use native.Mathlib.Nat.{zero-mul}
use native.Mathlib.Decide.{ℕ_discrete}
use native.Mathlib.Omega.{arith}
use lib.ListN.{length}
use Rattle.relation.specs.Vector.{Vect}
use Rattle.relation.proofs.Sum.{sum_ext}
use Rattle.relation.specs.Operations.{add_multiple, add_multiples, times_x}
use Rattle.relation.proofs.Vector.{zero_add_multiple}
use Rattle.relation.specs.Moving.{cleared_row, moved_row}
use Rattle.row.specs.View.{vector, row}
use Rattle.words.proofs.Part.{put, put_same, put_other, part_fits}
use Rattle.row.specs.Shape.{RowEndsAt, Residues}
use Rattle.step.specs.Factor.{column_factor, BasisShape, Moved}
use Rattle.step.proofs.Columns.{factor_own}

pub times_x_below : (p : ℕ) (P : Vect) → 0 < p → Residues p P → Residues p (times_x P)
unfolding times_x
times_x_below p P h small k zero = h
times_x_below p P h small k (suc t) = small k t

module _ (p n i c : ℕ) (Q : ℕ → Vect) (e : ℕ → ℕ) (i<n : i < n) (sh : BasisShape p n Q e) (l : ℕ) (l<n : l < n) (P : Vect)
    (cleared : P ≡ add_multiple p c (Q i) (Q l)) where
  pub cleared_ends : RowEndsAt n P e
  unfolding add_multiple
  cleared_ends k hk t g = rw cleared (zero_add_multiple p c _ _ (sh.ends l l<n k hk t g) (sh.ends i i<n k hk t g))

  pub cleared_clear : (k : ℕ) → k < n → l ≢ k → k ≢ i → P k (e k) ≡ 0
  unfolding add_multiple
  cleared_clear k hk ne ki = rw cleared (zero_add_multiple p c _ _ (sh.clear l k l<n hk ne) (sh.clear i k i<n hk (λ q. ki (sym q))))

-- the sum over the columns takes nothing of row i, so any row may stand there
moved_rows : (p n i : ℕ) (Q R : ℕ → Vect) (e m : ℕ → ℕ) → ((l : ℕ) → l < n → l ≢ i → R l ≡ cleared_row p m Q i l)
    → add_multiples p n (column_factor p i e (times_x (Q i))) R (times_x (Q i)) ≡ moved_row p n m (column_factor p i e (times_x (Q i))) Q i
unfolding add_multiples
moved_rows p n i Q R e m same = fun_ext λ k. fun_ext λ t. ap (λ (x : ℕ). (times_x (Q i) k t + x) % p)
    (sum_ext n _ _ (λ l hl. elim (ℕ_discrete l i) [
      | yes q ↦ rw (factor_own p i e R (times_x (Q i)) l q, zero-mul) (sym (zero-mul _))
      | no nq ↦ rw (same l hl nq)
    ]))

-- rows cleared by the pivot row, and in the place of row i the cleared multiple of X
pub moved_all : (p n i w : ℕ) (m e : ℕ → ℕ) (first cleared copied : List ℕ) (pivot shifted : Vect) → i < n → length cleared ≡ n * (n * w) → length copied ≡ n * w
    → pivot ≡ row n w first i
    → ((l : ℕ) → l < n → l ≢ i → row n w cleared l ≡ add_multiple p (m l) pivot (row n w first l))
    → shifted ≡ times_x pivot
    → vector w copied ≡ add_multiples p n (column_factor p i e shifted) (row n w cleared) shifted
    → Moved p n m e i (row n w first) (row n w (put (n * w) i cleared copied))
unfolding row
moved_all p n i w m e first cleared copied pivot shifted i<n long full pv cl sx col =
    let fits : i * (n * w) + n * w ≤ length cleared = omega (arith, part_fits n (n * w) i i<n) in
    let same : (l : ℕ) → l < n → l ≢ i → row n w cleared l ≡ cleared_row p m (row n w first) i l = λ l h ne. cl l h ne ∙ rw pv in
    let x : shifted ≡ times_x (row n w first i) = sx ∙ ap (λ (P : Vect). times_x P) pv in
    record {
      row = rw (put_same (n * w) i cleared copied fits full)
          (col ∙ rw x (moved_rows p n i (row n w first) (row n w cleared) e m same));
      rows = λ l h ne. rw (put_other (n * w) i cleared copied fits full l ne) (same l h ne);
    }
