-- What the result of a call says, from the words of a value and the numbers of what is wrong.
use Rattle.std.specs.Prelude.{List, ℕ, Result, Ok, Err}
use Rattle.field.specs.Answer.{Answer, result, refusal}

abbrev pub says : {T E : Type 0} → (T → List ℕ) → (E → ℕ) → Result T E → Answer
says words number (Ok value) = result (words value)
says words number (Err wrong) = refusal (number wrong)
