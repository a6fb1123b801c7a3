-- What is known where no test of a shared part holds, and that the sizes then pass.
use mathlib.Core.Path.{◌≡◌}
use mathlib.Core.List.{List, [], ◌∷◌}
use Prim.Native.Nat.{ℕ, ◌*◌, ◌≤◌, ◌<◌}
use native.Mathlib.Omega.{arith}
use lib.ListN.{length}
use Rattle.field.specs.Modulus.{Modulus}
use Rattle.field.specs.Refusal.{NoTest, ◌when◌}
use Rattle.field.proofs.Tests.{modulus_passed}
use Rattle.field.proofs.Outcome.{none_left, none_right}
use Rattle.field.proofs.Truth.{same_of, neither, no_either}
use Rattle.words.specs.Some.{Some}
use Rattle.sizes.specs.Entry.{EntryOutside}
use Rattle.sizes.specs.Orders.{start_order, sizes_order, job_order}

pub start_passed : (p n : ℕ) → NoTest (start_order p n) → Modulus p × (1 ≤ n) × (n ≤ 8)
unfolding NoTest
start_passed p n t =
    let outside = neither t.1.0 in
    (modulus_passed p [] (t.0, tt), omega (arith, outside.0), omega (arith, outside.1))

pub sizes_passed : (p n s : ℕ) → NoTest (sizes_order p n s) → Modulus p × (1 ≤ n) × (n ≤ 8) × (s ≤ 255)
unfolding NoTest
sizes_passed p n s t =
    let start = start_passed p n (none_left (start_order p n) ((3 when (255 < s)) ∷ []) t) in
    let order = none_right (start_order p n) ((3 when (255 < s)) ∷ []) t in
    (start.0, start.1, start.2, omega (arith, order.0))

pub sizes_pass : {p n s : ℕ} → Modulus p → 1 ≤ n → n ≤ 8 → s ≤ 255 → NoTest (sizes_order p n s)
unfolding NoTest
sizes_pass m from to order = ((λ no. no m), (no_either (omega (arith, from)) (omega (arith, to)), (omega (arith, order), tt)))

pub job_passed : (p n s : ℕ) (d series : List ℕ) → NoTest (job_order p n s d series)
    → (length d ≡ n) × (length series ≡ n * s) × (¬ (Some EntryOutside d)) × (¬ (Some (λ x. p ≤ x) series))
unfolding NoTest
job_passed p n s d series t =
    let lengths = neither t.0 in
    (same_of _ _ lengths.0, same_of _ _ lengths.1, t.1.0, t.1.1.0)
