-- What is known where no test of the whole call holds: of all sets, and of each.
use mathlib.Core.Path.{◌≡◌}
use mathlib.Core.List.{List}
use Prim.Native.Nat.{ℕ, ◌+◌, ◌*◌, ◌≤◌, ◌<◌}
use native.Mathlib.Omega.{arith}
use lib.ListN.{length}
use Rattle.field.specs.Refusal.{NoTest}
use Rattle.field.proofs.Outcome.{none_left, none_right}
use Rattle.field.proofs.Truth.{same_of}
use Rattle.words.specs.Part.{part}
use Rattle.words.proofs.Part.{part_fits, part_length}
use Rattle.sizes.specs.Lengths.{basis_length}
use Rattle.sizes.specs.Orders.{sizes_order}
use Rattle.sizes.proofs.Passed.{sizes_passed}
use Rattle.step.specs.Offset.{TypeWords}
use Rattle.solve.specs.Sizes.{Sizes}
use Rattle.sets.specs.Orders.{lent_order, bases_order}
use Rattle.sets.proofs.BasesSizes.{BasesSizes}

pub bases_sizes : (p n s sets : ℕ) (d : List ℕ) (series bases answers : ℕ) → NoTest (bases_order p n s sets d series bases answers)
    → BasesSizes p n s sets d series bases answers
unfolding NoTest
bases_sizes p n s sets d series bases answers t =
    let lent = lent_order n s sets d series bases answers in
    let known = sizes_passed p n s (none_left (sizes_order p n s) lent t) in
    let rest = none_right (sizes_order p n s) lent t in
    record {
      modulus = known.0;
      n_from = known.1;
      n_to = known.2;
      s_to = known.3;
      type_length = same_of _ _ (search rest);
      series_length = same_of _ _ (search rest);
      bases_words = same_of _ _ (search rest);
      answers_words = same_of _ _ (search rest);
      entries = search rest;
    }

pub types_of : {p n s sets : ℕ} {d : List ℕ} {series bases answers : ℕ} → BasesSizes p n s sets d series bases answers → TypeWords n d
types_of z = record { count = z.type_length; inside = λ i hi h. z.entries (i, omega (arith, z.type_length), h) }

module _ {p n s sets : ℕ} {d : List ℕ} (series : List ℕ) {bases answers : ℕ} (z : BasesSizes p n s sets d (length series) bases answers) (j : ℕ) (h : j < sets) where
  in_series : j * (n * s) + n * s ≤ length series
  in_series = omega (arith, z.series_length, part_fits sets (n * s) j h)

  set_sizes : (basis : ℕ) → basis ≡ basis_length n s → Sizes p n s d (part (n * s) j series) basis
  set_sizes basis e = record {
    modulus = z.modulus;
    n_from = z.n_from;
    n_to = z.n_to;
    s_to = z.s_to;
    type_length = z.type_length;
    series_length = part_length (n * s) j series in_series;
    basis_words = e;
    entries = z.entries;
  }

  -- with its part of lent bases
  pub part_sizes : (lent : List ℕ) → length lent ≡ bases → Sizes p n s d (part (n * s) j series) (length (part (basis_length n s) j lent))
  part_sizes lent e =
      set_sizes (length (part (basis_length n s) j lent))
      (part_length (basis_length n s) j lent (omega (arith, z.bases_words, part_fits sets (basis_length n s) j h)))
