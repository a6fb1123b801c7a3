-- Arguments: the words of a line behind the call's name. Each is a list of numbers; all numbers stand one after the other, and for each argument
-- there is the place where it ends. Where a word is none, the numbers and ends are those of the words before, and of the word's pieces before.
use Rattle.std.specs.Prelude.{true, false, List, [], ◌∷◌, ◌++◌, ℕ, ◌+◌, ◌-◌, ltb, length, Result, Ok, Err}
use Rattle.tokens.specs.Tokens.{Tokens, text_end, word, tokens}
use Rattle.request.specs.declared.Slip.{Slip}
use Rattle.request.specs.Listed.{list_of}

pub record Argued : Type 0 where
  pub numbers : List ℕ
  pub ends : List ℕ
  pub says : Result ℕ Slip

-- the words without their lines
unfoldable pub words_of : Tokens → List (List ℕ)
words_of (text_end l) = []
words_of (word l w t) = w ∷ words_of t

-- the numbers and ends so far, and the words that follow; there is room for so many numbers and so many arguments
unfoldable pub argue_from : ℕ → ℕ → List ℕ → List ℕ → List (List ℕ) → Argued
argue_from room places done ends [] = record { numbers = done; ends = ends; says = Ok (length ends) }
argue_from room places done ends (w ∷ ws) = elim (ltb (length ends) places) [
  | true ↦ elim (list_of (room - length done) w).says [
    | Ok k ↦ argue_from room places (done ++ (list_of (room - length done) w).numbers) (ends ++ ((length done + k) ∷ [])) ws
    | Err slip ↦ record { numbers = done ++ (list_of (room - length done) w).numbers; ends = ends; says = Err slip }
  ]
  | false ↦ record { numbers = done; ends = ends; says = Err Slip.TooMany }
]

unfoldable pub arguments_of : ℕ → ℕ → List ℕ → Argued
arguments_of room places text = argue_from room places [] [] (words_of (tokens text))
