-- Number: a word read as a decimal number of 32 bits; one that is no number comes before one that is too large.
use Rattle.std.specs.Prelude.{true, false, cond, List, [], ◌∷◌, ℕ, ◌+◌, ◌*◌, ◌-◌, ◌^◌, ltb, Result, Ok, Err}
use Rattle.tokens.specs.declared.NumeralError.{NumeralError}

-- v is the number that was read so far; 48 to 57 are the digits
unfoldable pub numeral_from : ℕ → List ℕ → Result ℕ NumeralError
numeral_from v [] = cond (ltb v (2 ^ 32)) (Ok v) (Err NumeralError.TooLarge)
numeral_from v (b ∷ t) = elim (ltb b 48) [
  | true ↦ Err NumeralError.NotNumber
  | false ↦ elim (ltb 57 b) [ true ↦ Err NumeralError.NotNumber | false ↦ numeral_from (v * 10 + (b - 48)) t ]
]

-- no byte at all is no number
unfoldable pub numeral_of : List ℕ → Result ℕ NumeralError
numeral_of [] = Err NumeralError.NotNumber
numeral_of (b ∷ t) = numeral_from 0 (b ∷ t)
