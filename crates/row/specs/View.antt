-- How words are read (document 01, "Buffers"): a part is a polynomial, low coefficient first.
use Rattle.std.specs.Prelude.{List, ℕ, ◌*◌, get_or}
use Rattle.words.specs.Part.{part}
use Rattle.words.specs.Polynomial.{poly}
use Rattle.relation.specs.Vector.{Vect}
use Rattle.degree.specs.declared.Degree.{Degree}

-- the vector whose entry k is part k: a row of entries of w words, or series of w words
unfoldable pub vector : ℕ → List ℕ → Vect
vector w l k = poly (part w k l)

-- row i of a basis of n rows, each of n entries of w words
unfoldable pub row : ℕ → ℕ → List ℕ → ℕ → Vect
row n w l i = vector w (part (n * w) i l)

-- the pivot degree of row k
abbrev pub degree_at : List Degree → ℕ → ℕ
degree_at l k = (get_or l k (record { 0 = 0 })).0
