-- The lengths that files have: some blocks, and not too many.
use Rattle.std.proofs.Common.{◌≡◌, ℕ, ◌*◌, ◌/◌, ◌≤◌, arith}
use Rattle.field.proofs.Truth.{same_of, exact, neither, no_either}
use Rattle.block.specs.Length.{BadLength}

pub record GoodLength (largest file : ℕ) : Type 0 where
  pub some : 512 ≤ file
  pub whole : file ≡ 512 * (file / 512)
  pub few : file ≤ largest

pub good_length : (largest file : ℕ) → ¬ (BadLength largest file) → GoodLength largest file
good_length largest file n =
    let some = neither n in
    let rest = neither some.1 in
    let whole : file ≡ 512 * (file / 512) = omega (arith, same_of _ _ rest.0) in
    record { some = omega (arith, some.0); whole = whole; few = omega (arith, rest.1) }

pub not_bad : (largest file m : ℕ) → file ≡ 512 * m → 1 ≤ m → file ≤ largest → ¬ (BadLength largest file)
not_bad largest file m e h l = no_either (omega arith) (no_either (exact (omega arith)) (omega arith))
