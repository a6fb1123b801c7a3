-- What each case of the engine's answers says in document 01's terms.
use Rattle.std.specs.Prelude.{[], ◌∷◌, Result, Ok, Err}
use Rattle.field.specs.Answer.{Answer, result, refusal}
use Rattle.field.specs.Number.{number_of}
use Rattle.field.specs.declared.Refusal.{Refusal}
use Rattle.engine.specs.declared.BasisResult.{BasisResult}

-- the least row's number and the count of shrinking orders, or a refusal
abbrev pub basis_says : Result BasisResult Refusal → Answer
basis_says (Ok r) = result (r.least ∷ r.count ∷ [])
basis_says (Err e) = refusal (number_of e)
