-- The words in which an answer is given to a program outside: a status word, and the words of a lent answer buffer.
use Rattle.std.specs.Prelude.{List, ℕ}
use Rattle.field.specs.Answer.{Answer, result, refusal, no_inverse}

-- 0 for a result, else document 01's number; the inverse of zero, which has none, is 256
abbrev pub status_of : Answer → ℕ
status_of (result ws) = 0
status_of (refusal k) = k
status_of no_inverse = 256

-- the answer buffer as it is left: the result's values, and else what was lent
abbrev pub words_left : Answer → List ℕ → List ℕ
words_left (result ws) lent = ws
words_left (refusal k) lent = lent
words_left no_inverse lent = lent
