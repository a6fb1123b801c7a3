-- The search for the least row, row by row: what the rows passed so far say of the best one.
use mathlib.Core.Path.{◌≡◌}
use mathlib.Core.Logic.{◌≢◌, inl, inr}
use Prim.Native.Nat.{ℕ, ◌+◌, ◌≤◌, ◌<◌}
use native.Mathlib.Nat.{le_trans}
use native.Mathlib.Decide.{ℕ_discrete}
use native.Mathlib.Omega.{arith}
use Rattle.std.specs.Prelude.{Option, None, Some, IfSome}
use Rattle.relation.specs.Weight.{weight}
use Rattle.relation.proofs.Weight.{order→weight}
use Rattle.relation.specs.Moving.{FirstRow}
use Rattle.step.specs.Search.{LeastAmong, Nearer}

module _ (n : ℕ) (flag b e : ℕ → ℕ) where
  abbrev heavy : ℕ → ℕ
  heavy k = weight n b k (e k)

  pub best_inside : (l : ℕ) (best : Option ℕ) → l ≤ n → LeastAmong l flag heavy best → IfSome best (λ k. k < n)
  best_inside l None h s = tt
  best_inside l (Some best) h s = omega (arith, s.row<)

  -- a row without a flag
  pub best_skip : (l : ℕ) (best : Option ℕ) → flag l ≡ 0 → LeastAmong l flag heavy best → LeastAmong (l + 1) flag heavy best
  best_skip l None z s = λ k h. elim (ℕ_discrete k l) [ yes q ↦ rw q z | no nq ↦ s k (omega arith) ]
  best_skip l (Some best) z s = record {
    row< = omega (arith, s.row<);
    nonzero = s.nonzero;
    least = λ k h nz. elim (ℕ_discrete k l) [ yes q ↦ absurd (nz (rw q z)) | no nq ↦ s.least k (omega arith) nz ];
  }

  -- row l takes the place of one that is no lighter
  replaced : (l : ℕ) → flag l ≢ 0 → ((k : ℕ) → k < l → flag k ≢ 0 → heavy l ≤ heavy k) → FirstRow (l + 1) flag heavy l
  replaced l nz low = record {
    row< = omega arith;
    nonzero = nz;
    least = λ k h nk. elim (ℕ_discrete k l) [ yes q ↦ rw q (omega arith) | no nq ↦ low k (omega arith) nk ];
  }

  pub best_turn : (l : ℕ) (best : Option ℕ) (r : ℕ) → l < n → flag l ≢ 0 → Nearer (λ k. e k + b k) best l r → LeastAmong l flag heavy best → FirstRow (l + 1) flag heavy r
  best_turn l None r hl nz t s = rw t (replaced l nz (λ k h nk. absurd (nk (s k h))))
  best_turn l (Some best) r hl nz (inl t) s =
      let low : heavy l ≤ heavy best = order→weight n b best (e best) l (e l) (omega (arith, s.row<)) hl (omega (arith, t.0)) (λ q. absurd (omega (arith, t.0))) in
      rw t.1 (replaced l nz (λ k h nk. le_trans low (s.least k h nk)))
  best_turn l (Some best) r hl nz (inr t) s =
      let high : heavy best ≤ heavy l = order→weight n b l (e l) best (e best) hl (omega (arith, s.row<)) t.0 (λ q. omega (arith, s.row<)) in
      rw t.1 (record {
        row< = omega (arith, s.row<);
        nonzero = s.nonzero;
        least = λ k h nk. elim (ℕ_discrete k l) [ yes q ↦ rw q high | no nq ↦ s.least k (omega arith) nk ];
      })
