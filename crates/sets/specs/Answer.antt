-- What the call answers, and the three words in which each set is answered.
use Rattle.std.specs.Prelude.{List, [], ◌∷◌, ℕ, Result, Ok, Err}
use Rattle.field.specs.Answer.{Answer, result, refusal}
use Rattle.field.specs.Number.{number_of}
use Rattle.field.specs.declared.Refusal.{Refusal}
use Rattle.engine.specs.declared.BasisResult.{BasisResult}

-- the result carries no number
abbrev pub bases_says : Result Unit Refusal → Answer
bases_says (Ok u) = result []
bases_says (Err e) = refusal (number_of e)

-- "Each answer is three words"
abbrev pub answer_length : ℕ
answer_length = 3

-- the refusal number or 0, the least row, the count; "a refused set has 6, 0, 0"
abbrev pub answer_words : Result BasisResult Refusal → List ℕ
answer_words (Ok r) = 0 ∷ r.least ∷ r.count ∷ []
answer_words (Err e) = number_of e ∷ 0 ∷ 0 ∷ []
