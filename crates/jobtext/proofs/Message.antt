-- Every message fits 128 bytes.
use mathlib.Core.List.{◌++◌}
use Prim.Native.Nat.{ℕ, ◌^◌, ◌≤◌, ◌<◌}
use native.Mathlib.Omega.{arith}
use lib.ListN.{length, length-append}
use Rattle.field.specs.Modulus.{largest}
use Rattle.report.specs.Text.{number}
use Rattle.report.specs.Words.{line}
use Rattle.report.proofs.Bound.{number_most}
use Rattle.jobtext.specs.declared.Slip.{Slip}
use Rattle.jobtext.specs.Message.{moduli_words, slip_words, on_line, colon, message}

moduli_length : length moduli_words ≤ 50
unfolding moduli_words
moduli_length = omega (arith, number_most 9 largest (omega arith))

words_length : (slip : Slip) → length (slip_words slip) ≤ 50
unfolding slip_words
words_length Slip.NotNumber = omega arith
words_length Slip.TooLarge = omega arith
words_length Slip.EndsEarly = omega arith
words_length Slip.TooMany = omega arith
words_length Slip.Modulus = moduli_length
words_length Slip.Count = omega arith
words_length Slip.Order = omega arith
words_length Slip.Entry = omega arith
words_length Slip.Coefficient = omega arith

pub message_fits : (slip : Slip) (l : ℕ) → l < 2 ^ 64 → length (message slip l) ≤ 128
unfolding message
message_fits slip l h =
    omega (
      arith,
      words_length slip,
      number_most 19 l (omega arith),
      length-append (on_line ++ number l ++ colon ++ slip_words slip) line,
      length-append (on_line ++ number l ++ colon) (slip_words slip),
      length-append (on_line ++ number l) colon,
      length-append on_line (number l),
    )
