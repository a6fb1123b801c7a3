-- Piece: what a piece of a list says. `7` is one number, `9*2040` a number that stands 2040 times, `45%101*12` twelve numbers that are drawn
-- with the seed 45, modulo 101. Its numbers are read from left to right, and the first that is none is what is wrong.
use Rattle.std.specs.Prelude.{List, ℕ, ◌+◌, ◌==◌, take, drop, position, Some, None, Result, Ok, Err}
use Rattle.tokens.specs.declared.NumeralError.{NumeralError}
use Rattle.tokens.specs.Number.{numeral_of}
use Rattle.request.specs.declared.Slip.{Slip}
use Rattle.request.specs.declared.Piece.{Piece}
use Rattle.request.specs.Cut.{percent, star}

-- what is wrong where a number is none
abbrev pub slip_of : NumeralError → Slip
slip_of NumeralError.NotNumber = Slip.NotNumber
slip_of NumeralError.TooLarge = Slip.TooLarge

-- a number, and go on with it
unfoldable pub then_of : Result ℕ NumeralError → (ℕ → Result Piece Slip) → Result Piece Slip
then_of (Ok v) go = go v
then_of (Err e) go = Err (slip_of e)

unfoldable pub same_piece : Result ℕ NumeralError → Result ℕ NumeralError → Result Piece Slip
same_piece value count = then_of value (λ v. then_of count (λ k. Ok (Piece.Same v k)))

unfoldable pub drawn_of : Result ℕ NumeralError → Result ℕ NumeralError → Result ℕ NumeralError → Result Piece Slip
drawn_of seed modulus count = then_of seed (λ x. then_of modulus (λ m. then_of count (λ k. Ok (Piece.Drawn x m k))))

-- what stands before the star
unfoldable pub repeated_of : List ℕ → Result ℕ NumeralError → Result Piece Slip
repeated_of front count = elim (position (λ b. b == percent) front) [
  | Some at ↦ drawn_of (numeral_of (take at front)) (numeral_of (drop (at + 1) front)) count
  | None ↦ same_piece (numeral_of front) count
]

unfoldable pub piece_of : List ℕ → Result Piece Slip
piece_of w = elim (position (λ b. b == star) w) [
  | Some at ↦ repeated_of (take at w) (numeral_of (drop (at + 1) w))
  | None ↦ same_piece (numeral_of w) (Ok 1)
]
