-- Message: what is wrong with a text, as one line of words, with the number of the line.
use Rattle.std.specs.Prelude.{List, [], ◌∷◌, ◌++◌, ℕ}
use Rattle.field.specs.Modulus.{largest}
use Rattle.report.specs.Text.{number}
use Rattle.report.specs.Words.{line}
use Rattle.jobtext.specs.declared.Slip.{Slip}

-- "the modulus p must be a prime from 2 to", and the largest
unfoldable pub moduli_words : List ℕ
moduli_words =
    (116 ∷ 104 ∷ 101 ∷ 32 ∷ 109 ∷ 111 ∷ 100 ∷ 117 ∷ 108 ∷ 117 ∷ 115 ∷ 32 ∷ 112 ∷ 32 ∷ 109 ∷ 117 ∷ 115 ∷ 116 ∷ 32 ∷ 98 ∷ 101 ∷ 32 ∷ 97 ∷ 32 ∷ 112 ∷ 114 ∷ 105 ∷ 109 ∷ 101 ∷ 32 ∷ 102 ∷ 114 ∷ 111 ∷ 109 ∷ 32 ∷ 50 ∷ 32 ∷ 116 ∷ 111 ∷ [])
    ++ number largest

-- " must be from "
abbrev pub must_be_from : List ℕ
must_be_from = 32 ∷ 109 ∷ 117 ∷ 115 ∷ 116 ∷ 32 ∷ 98 ∷ 101 ∷ 32 ∷ 102 ∷ 114 ∷ 111 ∷ 109 ∷ 32 ∷ []

unfoldable pub slip_words : Slip → List ℕ
-- "this word is no number"
slip_words Slip.NotNumber = 116 ∷ 104 ∷ 105 ∷ 115 ∷ 32 ∷ 119 ∷ 111 ∷ 114 ∷ 100 ∷ 32 ∷ 105 ∷ 115 ∷ 32 ∷ 110 ∷ 111 ∷ 32 ∷ 110 ∷ 117 ∷ 109 ∷ 98 ∷ 101 ∷ 114 ∷ []
-- "this number does not fit 32 bits"
slip_words Slip.TooLarge = 116 ∷ 104 ∷ 105 ∷ 115 ∷ 32 ∷ 110 ∷ 117 ∷ 109 ∷ 98 ∷ 101 ∷ 114 ∷ 32 ∷ 100 ∷ 111 ∷ 101 ∷ 115 ∷ 32 ∷ 110 ∷ 111 ∷ 116 ∷ 32 ∷ 102 ∷ 105 ∷ 116 ∷ 32 ∷ 51 ∷ 50 ∷ 32 ∷ 98 ∷ 105 ∷ 116 ∷ 115 ∷ []
-- "the text ends too early"
slip_words Slip.EndsEarly = 116 ∷ 104 ∷ 101 ∷ 32 ∷ 116 ∷ 101 ∷ 120 ∷ 116 ∷ 32 ∷ 101 ∷ 110 ∷ 100 ∷ 115 ∷ 32 ∷ 116 ∷ 111 ∷ 111 ∷ 32 ∷ 101 ∷ 97 ∷ 114 ∷ 108 ∷ 121 ∷ []
-- "there are more numbers than the job has"
slip_words Slip.TooMany = 116 ∷ 104 ∷ 101 ∷ 114 ∷ 101 ∷ 32 ∷ 97 ∷ 114 ∷ 101 ∷ 32 ∷ 109 ∷ 111 ∷ 114 ∷ 101 ∷ 32 ∷ 110 ∷ 117 ∷ 109 ∷ 98 ∷ 101 ∷ 114 ∷ 115 ∷ 32 ∷ 116 ∷ 104 ∷ 97 ∷ 110 ∷ 32 ∷ 116 ∷ 104 ∷ 101 ∷ 32 ∷ 106 ∷ 111 ∷ 98 ∷ 32 ∷ 104 ∷ 97 ∷ 115 ∷ []
slip_words Slip.Modulus = moduli_words
-- "the number of series n" .. "1 to 8"
slip_words Slip.Count = (116 ∷ 104 ∷ 101 ∷ 32 ∷ 110 ∷ 117 ∷ 109 ∷ 98 ∷ 101 ∷ 114 ∷ 32 ∷ 111 ∷ 102 ∷ 32 ∷ 115 ∷ 101 ∷ 114 ∷ 105 ∷ 101 ∷ 115 ∷ 32 ∷ 110 ∷ []) ++ must_be_from ++ (49 ∷ 32 ∷ 116 ∷ 111 ∷ 32 ∷ 56 ∷ [])
-- "the order s" .. "0 to 255"
slip_words Slip.Order = (116 ∷ 104 ∷ 101 ∷ 32 ∷ 111 ∷ 114 ∷ 100 ∷ 101 ∷ 114 ∷ 32 ∷ 115 ∷ []) ++ must_be_from ++ (48 ∷ 32 ∷ 116 ∷ 111 ∷ 32 ∷ 50 ∷ 53 ∷ 53 ∷ [])
-- "a type entry" .. "0 to 255"
slip_words Slip.Entry = (97 ∷ 32 ∷ 116 ∷ 121 ∷ 112 ∷ 101 ∷ 32 ∷ 101 ∷ 110 ∷ 116 ∷ 114 ∷ 121 ∷ []) ++ must_be_from ++ (48 ∷ 32 ∷ 116 ∷ 111 ∷ 32 ∷ 50 ∷ 53 ∷ 53 ∷ [])
-- "a coefficient must be below p"
slip_words Slip.Coefficient = 97 ∷ 32 ∷ 99 ∷ 111 ∷ 101 ∷ 102 ∷ 102 ∷ 105 ∷ 99 ∷ 105 ∷ 101 ∷ 110 ∷ 116 ∷ 32 ∷ 109 ∷ 117 ∷ 115 ∷ 116 ∷ 32 ∷ 98 ∷ 101 ∷ 32 ∷ 98 ∷ 101 ∷ 108 ∷ 111 ∷ 119 ∷ 32 ∷ 112 ∷ []

-- "line" and ": "
abbrev pub on_line : List ℕ
on_line = 108 ∷ 105 ∷ 110 ∷ 101 ∷ []

abbrev pub colon : List ℕ
colon = 58 ∷ 32 ∷ []

unfoldable pub message : Slip → ℕ → List ℕ
message slip l = on_line ++ number l ++ colon ++ slip_words slip ++ line
