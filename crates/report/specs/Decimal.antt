-- Decimal: a number's decimal digits in ASCII, without leading zeros, and those of an integer, with a minus sign where it is negative.
use Rattle.std.specs.Prelude.{true, false, List, ◌∷◌, ℕ, zero, suc, ◌/◌, ltb, ℤ, pos, negsuc}
use Rattle.io.specs.Digits.{last_digits}

-- one digit for a number below ten, else one more than its tenth part has; k bounds the steps
unfoldable pub places_within : ℕ → ℕ → ℕ
places_within zero n = 1
places_within (suc k) n = elim (ltb n 10) [ true ↦ 1 | false ↦ suc (places_within k (n / 10)) ]

unfoldable pub places : ℕ → ℕ
places n = places_within n n

unfoldable pub decimal : ℕ → List ℕ
decimal n = last_digits 10 (places n) n

-- 45 is the minus sign
unfoldable pub signed : ℤ → List ℕ
signed (pos k) = decimal k
signed (negsuc k) = 45 ∷ decimal (suc k)
