-- Whether sizes fit a view is decided. A row is never empty, so an empty part means a misfit and nothing else.
use mathlib.Core.Path.{◌≡◌, ap, sym, ◌∙◌}
use mathlib.Core.Logic.{◌↔◌}
use mathlib.Core.List.{List, []}
use Prim.Native.Nat.{ℕ, ◌+◌, ◌*◌, ◌-◌, ◌≤◌, ◌<◌}
use native.Mathlib.Nat.{mul-pos}
use native.Mathlib.Decide.{ℕ_discrete, dec_le}
use native.Mathlib.Omega.{arith}
use lib.ListN.{length}
use Rattle.words.specs.Part.{part}
use Rattle.words.proofs.Part.{part_fits, part_length}
use Rattle.sizes.specs.Lengths.{basis_length}
use Rattle.engine.specs.RowView.{ViewFits, RowViewed}

-- two decisions as one
both : {A B : Type 0} → Dec A → Dec B → Dec (A × B)
both (yes a) (yes b) = yes (a, b)
both (no n) b = no λ h. n h.0
both (yes a) (no n) = no λ h. n h.1

pub fits_decided : (words n s i : ℕ) → Dec (ViewFits words n s i)
fits_decided words n s i =
    elim (both (both (dec_le 1 n) (dec_le n 8)) (both (dec_le s 255) (both (both (dec_le 1 i) (dec_le i n)) (ℕ_discrete words (basis_length n s))))) [
      | yes f ↦ yes (record { n_from = f.0.0; n_to = f.0.1; s_to = f.1.0; i_from = f.1.1.0.0; i_to = f.1.1.0.1; full = f.1.1.1 })
      | no g ↦ no λ f. g ((f.n_from, f.n_to), (f.s_to, ((f.i_from, f.i_to), f.full)))
    ]

-- row j, counted from 0, ends within the words
pub row_inside : {words n s i : ℕ} → ViewFits words n s i → (j : ℕ) → j < n → j * (n * (s + 1)) + n * (s + 1) ≤ words
row_inside {n} {s} f j h = omega (arith, f.full, part_fits n (n * (s + 1)) j h)

pub empty_is_misfit : (basis : List ℕ) (n s i : ℕ) (view : List ℕ) → RowViewed basis n s i view → (view ≡ []) ↔ (¬ (ViewFits (length basis) n s i))
empty_is_misfit basis n s i view v = (
  λ e f.
      let size = n * (s + 1) in
      let full : length (part size (i - 1) basis) ≡ size = part_length size (i - 1) basis (row_inside f (i - 1) (omega (arith, f.i_from, f.i_to))) in
      let none : length (part size (i - 1) basis) ≡ 0 = ap length (sym (v.fits f) ∙ e) in
      omega (arith, mul-pos {m = n} {n = s + 1} f.n_from (omega arith)),
  v.misfits,
)
