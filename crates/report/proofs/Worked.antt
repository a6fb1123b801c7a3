-- C1's text: the definition at C1's numbers gives the four lines of document 01.
use mathlib.Core.Path.{◌≡◌, refl}
use mathlib.Core.List.{List, [], ◌∷◌, ◌++◌}
use Prim.Native.Nat.{ℕ}
use Rattle.report.specs.Each.{each}
use Rattle.report.specs.Decimal.{places_within, places, decimal, signed}
use Rattle.report.specs.Entry.{keep, trim, or_zero, shown, degree}
use Rattle.words.specs.Part.{part}
use Rattle.report.specs.Text.{number, numbers, type_numbers, sizes, heading, entry_text, entries_text, shifted_degree, degrees, pivot_line, row_line, row_lines, numbered, basis_text, refusal_text}

-- "relations 7 2 3 type 0 2"
abbrev line1 : List ℕ
line1 = 114 ∷ 101 ∷ 108 ∷ 97 ∷ 116 ∷ 105 ∷ 111 ∷ 110 ∷ 115 ∷ 32 ∷ 55 ∷ 32 ∷ 50 ∷ 32 ∷ 51 ∷ 32 ∷ 116 ∷ 121 ∷ 112 ∷ 101 ∷ 32 ∷ 48 ∷ 32 ∷ 50 ∷ 10 ∷ []

-- "row 1 1 1 | 6 1 | 6 2"
abbrev line2 : List ℕ
line2 = 114 ∷ 111 ∷ 119 ∷ 32 ∷ 49 ∷ 32 ∷ 49 ∷ 32 ∷ 49 ∷ 32 ∷ 124 ∷ 32 ∷ 54 ∷ 32 ∷ 49 ∷ 32 ∷ 124 ∷ 32 ∷ 54 ∷ 32 ∷ 50 ∷ 10 ∷ []

-- "row 2 2 0 | 6 | 6 1 1"
abbrev line3 : List ℕ
line3 = 114 ∷ 111 ∷ 119 ∷ 32 ∷ 50 ∷ 32 ∷ 50 ∷ 32 ∷ 48 ∷ 32 ∷ 124 ∷ 32 ∷ 54 ∷ 32 ∷ 124 ∷ 32 ∷ 54 ∷ 32 ∷ 49 ∷ 32 ∷ 49 ∷ 10 ∷ []

-- "least 2"
abbrev line4 : List ℕ
line4 = 108 ∷ 101 ∷ 97 ∷ 115 ∷ 116 ∷ 32 ∷ 50 ∷ 10 ∷ []

-- the rows (6 1, 6 2) and (6, 6 1 1), four words an entry
abbrev basis : List ℕ
basis = 6 ∷ 1 ∷ 0 ∷ 0 ∷ 6 ∷ 2 ∷ 0 ∷ 0 ∷ 6 ∷ 0 ∷ 0 ∷ 0 ∷ 6 ∷ 1 ∷ 1 ∷ 0 ∷ []

pub c1_text : basis_text 7 2 3 (0 ∷ 2 ∷ []) basis 2 ≡ line1 ++ line2 ++ line3 ++ line4
unfolding basis_text heading type_numbers sizes row_lines row_line pivot_line degrees numbered entries_text entry_text shifted_degree numbers number signed decimal places places_within each part keep trim or_zero shown degree
c1_text = refl

-- a negative shifted degree and a zero entry: the row (1, 0) at d = (3, 0) is "row 1 0 -3 | 1 | 0"
pub negative_text : row_line 2 1 3 0 (1 ∷ 0 ∷ []) ≡ 114 ∷ 111 ∷ 119 ∷ 32 ∷ 49 ∷ 32 ∷ 48 ∷ 32 ∷ 45 ∷ 51 ∷ 32 ∷ 124 ∷ 32 ∷ 49 ∷ 32 ∷ 124 ∷ 32 ∷ 48 ∷ 10 ∷ []
unfolding row_line pivot_line entries_text entry_text shifted_degree numbers number signed decimal places places_within each part keep trim or_zero shown degree degrees
negative_text = refl

-- "refused 12", and the largest word
pub refused_text : refusal_text 12 ≡ 114 ∷ 101 ∷ 102 ∷ 117 ∷ 115 ∷ 101 ∷ 100 ∷ 32 ∷ 49 ∷ 50 ∷ 10 ∷ []
unfolding refusal_text number decimal places places_within numbered
refused_text = refl

pub largest_word : decimal 4294967295 ≡ 52 ∷ 50 ∷ 57 ∷ 52 ∷ 57 ∷ 54 ∷ 55 ∷ 50 ∷ 57 ∷ 53 ∷ []
unfolding decimal places places_within
largest_word = refl
