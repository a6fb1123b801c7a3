-- A signed number of 64 bits is shown by the digits of its absolute value, after a minus sign where it is negative.
use mathlib.Core.Path.{◌≡◌, refl}
use mathlib.Core.Bool.{true, false}
use mathlib.Core.List.{◌∷◌}
use native.Mathlib.Omega.{arith}
use borrow.Author.Tests.{ltb-true}
use lib.IntN.{ℤ, pos, negsuc, nat_abs}
use lib.Signed.{lt_z}
use mir.Syntax.{w64}
use mir.Val.{SFits, to_z, of_z}
use mir.Facts.{to_z-of_z}
use Rattle.report.specs.Decimal.{decimal, signed}

-- the number as the machine holds it
abbrev pub held : ℤ → ℤ
held z = to_z w64 (of_z w64 z)

negative : (z : ℤ) → lt_z z (pos 0) ≡ true → signed z ≡ 45 ∷ decimal (nat_abs z)
unfolding signed
negative (pos n) low = absurd (omega (arith, ltb-true n 0 low))
negative (negsuc k) low = refl

natural : (z : ℤ) → lt_z z (pos 0) ≡ false → signed z ≡ decimal (nat_abs z)
unfolding signed
natural (pos n) high = refl
natural (negsuc k) high = cc

pub signed_negative : (z : ℤ) → SFits w64 z → lt_z (held z) (pos 0) ≡ true → signed z ≡ 45 ∷ decimal (nat_abs (held z))
signed_negative z fits low = rw (to_z-of_z fits) (negative z (rw (to_z-of_z fits) at low))

pub signed_natural : (z : ℤ) → SFits w64 z → lt_z (held z) (pos 0) ≡ false → signed z ≡ decimal (nat_abs (held z))
signed_natural z fits high = rw (to_z-of_z fits) (natural z (rw (to_z-of_z fits) at high))
