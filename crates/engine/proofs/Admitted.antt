-- What is known where no test of a call holds.
use mathlib.Core.Path.{◌≡◌}
use mathlib.Core.Logic.{◌⊎◌, ◌≢◌}
use mathlib.Core.List.{List, ◌∷◌, ◌++◌}
use Prim.Native.Nat.{ℕ, ◌*◌}
use native.Mathlib.Omega.{arith}
use lib.ListN.{length}
use Rattle.field.specs.Refusal.{Order, NoTest, Outcome, ◌when◌}
use Rattle.field.proofs.Outcome.{none_both, none_left, none_right, outcome_after}
use Rattle.field.proofs.Truth.{same_of, exact, neither, no_either}
use Rattle.words.specs.Some.{Some}
use Rattle.sizes.specs.Entry.{EntryOutside}
use Rattle.sizes.specs.Lengths.{basis_length}
use Rattle.sizes.specs.Orders.{start_order, sizes_order, entries_order, coefficients_order}
use Rattle.sizes.proofs.Passed.{start_passed, sizes_passed, sizes_pass, job_passed}
use Rattle.solve.specs.Sizes.{Sizes}
use Rattle.engine.specs.Sigma.{order_of}
use Rattle.engine.specs.Orders.{buffers_order, basis_order, type_order, series_order, approximant_order}

pub basis_sizes : (p n s : ℕ) (d series : List ℕ) (basis : ℕ) → NoTest (basis_order p n s d series basis) → Sizes p n s d series basis
unfolding NoTest
basis_sizes p n s d series basis t =
    let known = sizes_passed p n s (none_left (sizes_order p n s) (buffers_order p n s d series basis) t) in
    let buffers = none_right (sizes_order p n s) (buffers_order p n s d series basis) t in
    let job = job_passed p n s d series buffers.1 in
    record {
      modulus = known.0;
      n_from = known.1;
      n_to = known.2;
      s_to = known.3;
      type_length = job.0;
      series_length = job.1;
      basis_words = same_of _ _ buffers.0;
      entries = job.2;
    }

-- the single call's tests of lengths and entries
abbrev lent : ℕ → ℕ → List ℕ → List ℕ → ℕ → Order
lent n s d series basis = (4 when (basis ≢ basis_length n s)) ∷ (4 when ((length d ≢ n) ⊎ (length series ≢ n * s))) ∷ entries_order d

lent_pass : {p n s : ℕ} {d series : List ℕ} {basis : ℕ} → Sizes p n s d series basis → NoTest (lent n s d series basis)
unfolding NoTest
lent_pass z = (exact z.basis_words, (no_either (exact z.type_length) (exact z.series_length), (z.entries, tt)))

-- with the sizes admitted only 6 is left to test
pub only_coefficients : (p n s : ℕ) (d series : List ℕ) (basis : ℕ) → Sizes p n s d series basis → (R : ℕ → Type 0) (A : Type 0)
    → Outcome (coefficients_order p series) R A → Outcome (basis_order p n s d series basis) R A
only_coefficients p n s d series basis z R A =
    outcome_after (sizes_order p n s ++ lent n s d series basis) (coefficients_order p series) R A
    (none_both (sizes_order p n s) (lent n s d series basis) (sizes_pass z.modulus z.n_from z.n_to z.s_to) (lent_pass z))

pub type_passed : (n : ℕ) (d : List ℕ) → NoTest (type_order n d) → (length d ≡ n) × (¬ (Some EntryOutside d))
unfolding NoTest
type_passed n d t = (same_of _ _ t.0, t.1.0)

pub approximant_sizes : (p n : ℕ) (d series : List ℕ) (basis : ℕ) → NoTest (approximant_order p n d series basis) → Sizes p n (order_of n d) d series basis
unfolding NoTest
approximant_sizes p n d series basis t =
    let last = series_order p n (order_of n d) series basis in
    let known = start_passed p n (none_left (start_order p n) (type_order n d ++ last) t) in
    let rest = none_right (start_order p n) (type_order n d ++ last) t in
    let type = type_passed n d (none_left (type_order n d) last rest) in
    let at-order = none_right (type_order n d) last rest in
    let words = neither at-order.1.0 in
    record {
      modulus = known.0;
      n_from = known.1;
      n_to = known.2;
      s_to = omega (arith, at-order.0);
      type_length = type.0;
      series_length = same_of _ _ words.0;
      basis_words = same_of _ _ words.1;
      entries = type.1;
    }
