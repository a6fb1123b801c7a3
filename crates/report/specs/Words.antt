-- The words of the text in ASCII.
use Rattle.std.specs.Prelude.{List, [], ◌∷◌, ℕ}

-- "relations", " type", "row", " ", " |", "least", "refused", and the end of a line
abbrev pub relations_word : List ℕ
relations_word = 114 ∷ 101 ∷ 108 ∷ 97 ∷ 116 ∷ 105 ∷ 111 ∷ 110 ∷ 115 ∷ []

abbrev pub type_word : List ℕ
type_word = 32 ∷ 116 ∷ 121 ∷ 112 ∷ 101 ∷ []

abbrev pub row_word : List ℕ
row_word = 114 ∷ 111 ∷ 119 ∷ []

abbrev pub space : List ℕ
space = 32 ∷ []

abbrev pub bar : List ℕ
bar = 32 ∷ 124 ∷ []

abbrev pub least_word : List ℕ
least_word = 108 ∷ 101 ∷ 97 ∷ 115 ∷ 116 ∷ []

abbrev pub refused_word : List ℕ
refused_word = 114 ∷ 101 ∷ 102 ∷ 117 ∷ 115 ∷ 101 ∷ 100 ∷ []

abbrev pub line : List ℕ
line = 10 ∷ []
