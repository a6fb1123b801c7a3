-- Where the row view lies: its start is i - 1 times its length, also where it is empty.
use mathlib.Core.Path.{◌≡◌, refl, ap, ◌∙◌}
use mathlib.Core.List.{List, [], ◌∷◌}
use Prim.Native.Nat.{ℕ, ◌+◌, ◌*◌, ◌-◌, ◌≤◌}
use native.Mathlib.Nat.{mul-zero, mul-le-mul}
use native.Mathlib.Decide.{ℕ_discrete}
use native.Mathlib.Omega.{arith}
use lib.ListN.{length}
use Rattle.field.specs.Answer.{result}
use Rattle.words.specs.Part.{part}
use Rattle.words.proofs.Part.{part_fits, part_length}
use Rattle.words.proofs.Sizes.{row_small}
use Rattle.engine.specs.RowView.{ViewFits, RowViewed}
use Rattle.engine.proofs.View.{fits_decided}
use Rattle.embed.specs.RowAt.{RowSaid}

module _ {basis : List ℕ} {n s i : ℕ} {view : List ℕ} (v : RowViewed basis n s i view) where
  -- a view that is not empty is a row
  pub view_fits : ¬ (length view ≡ 0) → ViewFits (length basis) n s i
  view_fits some = elim (fits_decided (length basis) n s i) [
    | yes f ↦ f
    | no g ↦ absurd (some (ap length (v.misfits g)))
  ]

  pub view_count : ViewFits (length basis) n s i → length view ≡ n * (s + 1)
  view_count f =
      ap length (v.fits f)
      ∙ part_length (n * (s + 1)) (i - 1) basis (omega (arith, f.full, part_fits n (n * (s + 1)) (i - 1) (omega (arith, f.i_from, f.i_to))))

  -- both numbers are small
  pub view_small : (length view ≤ 2048) × ((i - 1) * length view ≤ 16384)
  view_small = elim (ℕ_discrete (length view) 0) [
    | yes e ↦ (omega (arith, e), omega (arith, ap (λ (k : ℕ). (i - 1) * k) e, mul-zero (i - 1)))
    | no some ↦
        let f = view_fits some in
        let small : length view ≤ 2048 = omega (arith, view_count f, row_small n (s + 1) f.n_to (omega (arith, f.s_to))) in
        (small, mul-le-mul {n₁ = i - 1} {m₁ = length view} {n₂ = 8} {m₂ = 2048} (omega (arith, f.i_to, f.n_to)) small)
  ]

  pub row_said : (start : ℕ) → start ≡ (i - 1) * length view → RowSaid basis n s i (result (start ∷ length view ∷ []))
  unfolding part
  row_said start e = record {
    start = start;
    count = length view;
    says = refl;
    row_at = record {
      fits = λ f. (e ∙ ap (λ (k : ℕ). (i - 1) * k) (view_count f), view_count f);
      misfits = λ g. (e ∙ ap (λ (k : ℕ). (i - 1) * k) (ap length (v.misfits g)) ∙ mul-zero (i - 1), ap length (v.misfits g));
      viewed = record {
        fits = λ f. rw (e, view_count f) refl;
        misfits = λ g. rw (ap length (v.misfits g)) refl;
      };
    };
  }
