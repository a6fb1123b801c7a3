-- What each case of the pair's answer says in document 01's terms.
use Rattle.std.specs.Prelude.{[], Result, Ok, Err}
use Rattle.field.specs.Answer.{Answer, result, refusal}
use Rattle.field.specs.Number.{number_of}
use Rattle.field.specs.declared.Refusal.{Refusal}

-- the result carries no number
abbrev pub pair_says : Result Unit Refusal → Answer
pair_says (Ok u) = result []
pair_says (Err e) = refusal (number_of e)
