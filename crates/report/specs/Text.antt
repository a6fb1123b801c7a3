-- The text of a basis and of a refusal: the lines that `relations` prints, each with its end of line.
use Rattle.std.specs.Prelude.{List, ◌++◌, ℕ, ◌+◌, ◌*◌, ℤ, pos, ◌-ℤ◌, length, get_or}
use Rattle.sizes.specs.Entry.{entry_of}
use Rattle.report.specs.Each.{each}
use Rattle.report.specs.Decimal.{decimal, signed}
use Rattle.report.specs.Entry.{shown, degree}
use Rattle.words.specs.Part.{part}
use Rattle.report.specs.Words.{relations_word, type_word, row_word, space, bar, least_word, refused_word, line}

-- a space and a number
unfoldable pub number : ℕ → List ℕ
number x = space ++ decimal x

-- a space before each number
unfoldable pub numbers : List ℕ → List ℕ
numbers l = each (λ k. number (get_or l k 0)) (length l)

-- a space before each type entry
unfoldable pub type_numbers : List ℕ → List ℕ
type_numbers d = each (λ k. space ++ signed (entry_of (get_or d k 0))) (length d)

-- the start of line 1: p, n, s
unfoldable pub sizes : ℕ → ℕ → ℕ → List ℕ
sizes p n s = relations_word ++ number p ++ number n ++ number s

-- line 1: p, n, s, then the type entries
unfoldable pub heading : ℕ → ℕ → ℕ → List ℕ → List ℕ
heading p n s d = sizes p n s ++ type_word ++ type_numbers d ++ line

-- an entry after its bar
unfoldable pub entry_text : List ℕ → List ℕ
entry_text e = bar ++ numbers (shown e)

unfoldable pub entries_text : ℕ → ℕ → List ℕ → List ℕ
entries_text n w l = each (λ k. entry_text (part w k l)) n

-- the shifted degree of a row that has type i: its pivot degree e less d_i
unfoldable pub shifted_degree : ℕ → ℕ → ℤ
shifted_degree e d = pos e -ℤ entry_of d

-- a row line at its pivot degree e and its shifted degree δ, for entries of w words: row number (from 1), both degrees, then each entry
unfoldable pub degrees : ℕ → ℤ → ℕ → List ℕ
degrees e δ i = row_word ++ number (i + 1) ++ number e ++ space ++ signed δ

unfoldable pub pivot_line : ℕ → ℕ → ℕ → ℤ → ℕ → List ℕ → List ℕ
pivot_line n w e δ i l = degrees e δ i ++ entries_text n w l ++ line

-- the line of row i, from 0: its pivot degree is that of its entry i
unfoldable pub row_line : ℕ → ℕ → ℕ → ℕ → List ℕ → List ℕ
row_line n w d i l = pivot_line n w (degree (part w i l)) (shifted_degree (degree (part w i l)) d) i l

unfoldable pub row_lines : ℕ → ℕ → List ℕ → List ℕ → List ℕ
row_lines n w d basis = each (λ i. row_line n w (get_or d i 0) i (part (n * w) i basis)) n

-- a line of a word and a number
unfoldable pub numbered : List ℕ → ℕ → List ℕ
numbered word k = word ++ number k ++ line

-- line 1, the row lines and the least row's number i, which counts from 1
unfoldable pub basis_text : ℕ → ℕ → ℕ → List ℕ → List ℕ → ℕ → List ℕ
basis_text p n s d basis i = heading p n s d ++ row_lines n (s + 1) d basis ++ numbered least_word i

unfoldable pub refusal_text : ℕ → List ℕ
refusal_text k = numbered refused_word k
