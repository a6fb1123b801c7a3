-- Entry: an entry's words without high zeros, as they are shown, and its degree.
use Rattle.std.specs.Prelude.{List, [], ◌∷◌, ℕ, zero, suc, ◌-◌, length}

-- c before what is left of the higher coefficients
unfoldable pub keep : ℕ → List ℕ → List ℕ
keep zero [] = []
keep (suc c) [] = suc c ∷ []
keep c (x ∷ l) = c ∷ x ∷ l

-- up to the last word that is not zero
unfoldable pub trim : List ℕ → List ℕ
trim [] = []
trim (c ∷ l) = keep c (trim l)

unfoldable pub or_zero : List ℕ → List ℕ
or_zero [] = 0 ∷ []
or_zero (c ∷ l) = c ∷ l

-- without high zeros, and 0 for the zero polynomial
unfoldable pub shown : List ℕ → List ℕ
shown l = or_zero (trim l)

-- deg of document 000; a zero entry, which no pivot is, counts as 0
unfoldable pub degree : List ℕ → ℕ
degree l = length (trim l) - 1
