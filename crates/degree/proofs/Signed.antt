-- Numbers below 2^63 as signed ones: their difference fits 64 bits.
use mathlib.Core.Path.{◌≡◌, ◌∙◌, ap, sym, subst}
use Prim.Native.Nat.{ℕ, zero, suc, ◌<◌, ◌≤◌, ◌^◌}
use native.Mathlib.Decide.{dec_lt}
use native.Mathlib.Omega.{arith}
use lib.IntN.{ℤ, pos, ◌-ℤ◌}
use lib.Signed.{mag}
use mir.Syntax.{w64}
use mir.Val.{SFits, to_z, of_z}
use mir.Facts.{to_z-of_z}
use borrow.Author.Tests.{lt-ltb, le-ltb}

small_pos : (n : ℕ) → n < 2 ^ 63 → to_z w64 n ≡ pos n
small_pos n h = simp (lt-ltb n (2 ^ 63) h)

difference_small : (a b H : ℕ) → a < H → b < H → mag (pos a -ℤ pos b) < H
difference_small a zero H h k = omega arith
difference_small a (suc b) H h k = elim (dec_lt a (suc b)) [
  | yes g ↦ simp (lt-ltb a (suc b) g) (omega arith)
  | no g ↦ let l : suc b ≤ a = omega arith in simp (le-ltb a (suc b) l) (omega arith)
]

module _ (a b : ℕ) (ha : a < 2 ^ 63) (hb : b < 2 ^ 63) where
  same : to_z w64 a -ℤ to_z w64 b ≡ pos a -ℤ pos b
  same = ap (λ (z : ℤ). z -ℤ to_z w64 b) (small_pos a ha) ∙ ap (λ (z : ℤ). pos a -ℤ z) (small_pos b hb)

  pub difference_fits : SFits w64 (to_z w64 a -ℤ to_z w64 b)
  difference_fits = subst (λ (z : ℤ). SFits w64 z) (sym same) (record { sfits = difference_small a b (2 ^ 63) ha hb })

  pub difference_read : to_z w64 (of_z w64 (to_z w64 a -ℤ to_z w64 b)) ≡ pos a -ℤ pos b
  difference_read = to_z-of_z difference_fits ∙ same
