-- From the reduced basis by weights to document 01's words.
use mathlib.Core.Path.{◌≡◌, refl, ◌∙◌}
use mathlib.Core.List.{List}
use Prim.Native.Nat.{ℕ, zero, suc, ◌+◌, ◌*◌, ◌≤◌, ◌<◌}
use native.Mathlib.Omega.{arith}
use lib.ListN.{length, take}
use native.Mathlib.Numerals.{add-one}
use Rattle.std.specs.List.{sum_by}
use Rattle.std.proofs.lemmas.List.Sums.{sum_by_more}
use Rattle.degree.specs.declared.Degree.{Degree}
use Rattle.field.specs.Prime.{Prime}
use Rattle.relation.specs.Sum.{sum_to}
use Rattle.relation.specs.Vector.{Vect}
use Rattle.relation.specs.Shrink.{ShrinkCount, none, smaller, same}
use Rattle.relation.proofs.Shift.{Offset}
use Rattle.relation.proofs.Existence.{pivot_le}
use Rattle.relation.specs.Weight.{weight}
use Rattle.relation.specs.ReducedBasis.{ReducedBasis}
use Rattle.relation.proofs.Bridge.{basis→minimal, basis→reduced, basis→least}
use Rattle.relation.proofs.Shrink.{basis→count}
use Rattle.row.specs.View.{vector, row, degree_at}
use Rattle.step.specs.Offset.{TypeWords}
use Rattle.sizes.specs.Entry.{type_of}
use Rattle.sizes.specs.Lengths.{basis_length}
use Rattle.solve.specs.Sizes.{Sizes}
use Rattle.solve.specs.Found.{BasisFound}

pub type_length : {p n s : ℕ} {d F : List ℕ} {m : ℕ} → Sizes p n s d F m → TypeWords n d
type_length z = record { count = z.type_length; inside = λ i hi h. z.entries (i, omega (arith, z.type_length), h) }

-- no pivot degree is above 255
pub tops_within : {p n s : ℕ} {b : ℕ → ℕ} {F : Vect} {Q : ℕ → Vect} {e : ℕ → ℕ} → Prime p → s ≤ 255 → ReducedBasis p n b F s Q e
    → (l : ℕ) → l < n → e l ≤ 255
tops_within pr h rb l hl = omega (arith, pivot_le pr rb.basis l hl)

-- at most s orders make V smaller
pub count_le : {p n : ℕ} {F : Vect} {s c : ℕ} → ShrinkCount p n F s c → c ≤ s
count_le none = omega arith
count_le (smaller a x) = omega (arith, count_le x)
count_le (same a x) = omega (arith, count_le x)

-- the sum of the pivot degrees of n rows, and that it is small
pub sum_of_tops : (n : ℕ) (tops : List Degree) → n ≤ length tops → sum_by (λ (t : Degree). t.0) (take n tops) ≡ sum_to n (degree_at tops)
unfolding sum_to
sum_of_tops zero tops h = refl
sum_of_tops (suc n) tops h = rw (← add-one) (sum_by_more (λ (t : Degree). t.0) tops n (record { 0 = 0 }) (omega arith) ∙ rw (sum_of_tops n tops (omega arith)))

pub sum_small : (n : ℕ) (e : ℕ → ℕ) → ((l : ℕ) → l < n → e l ≤ 255) → sum_to n e ≤ 255 * n
unfolding sum_to
sum_small zero e h = omega arith
sum_small (suc n) e h = omega (arith, sum_small n e (λ l hl. h l (omega arith)), h n (omega arith))

pub found_of : {p n s : ℕ} {d F xs : List ℕ} {B : ℕ} {b e : ℕ → ℕ} {i : ℕ} → Prime p → Offset n (type_of d) B b
    → ReducedBasis p n b (vector s F) s (row n (s + 1) xs) e → length xs ≡ basis_length n s
    → i < n → ((l : ℕ) → l < n → weight n b i (e i) ≤ weight n b l (e l)) → BasisFound p n s d F xs i (sum_to n e)
found_of {i} pr o rb full hi h = record {
  full = full;
  minimal = basis→minimal o rb.basis;
  reduced = basis→reduced rb;
  least_row = basis→least o rb.basis i hi h;
  shrinks = basis→count pr rb.basis;
}
