-- Listed: the numbers of a word, which is a list of pieces between commas, and what reading them answers. Where something is wrong, the numbers
-- are those of the pieces before.
use Rattle.std.specs.Prelude.{true, false, List, [], ◌∷◌, ◌++◌, ℕ, ◌-◌, eqb, leb, length, replicate, Result, Ok, Err}
use Rattle.request.specs.declared.Slip.{Slip}
use Rattle.request.specs.declared.Piece.{Piece}
use Rattle.request.specs.Cut.{pieces}
use Rattle.request.specs.Drawn.{start, drawn}
use Rattle.request.specs.Piece.{piece_of}

pub record Writing : Type 0 where
  pub numbers : List ℕ
  pub says : Result ℕ Slip

-- numbers for which there is room
unfoldable pub placed : ℕ → List ℕ → Writing
placed room l = elim (leb (length l) room) [
  | true ↦ record { numbers = l; says = Ok (length l) }
  | false ↦ record { numbers = []; says = Err Slip.TooLong }
]

unfoldable pub piece_written : ℕ → Result Piece Slip → Writing
piece_written room (Ok (Piece.Same v k)) = placed room (replicate k v)
piece_written room (Ok (Piece.Drawn x m k)) = elim (eqb m 0) [
  | true ↦ record { numbers = []; says = Err Slip.NoModulus }
  | false ↦ placed room (drawn m k (start x))
]
piece_written room (Err slip) = record { numbers = []; says = Err slip }

-- the numbers so far, and the pieces that follow
unfoldable pub list_from : ℕ → List ℕ → List (List ℕ) → Writing
list_from room done [] = record { numbers = done; says = Ok (length done) }
list_from room done (q ∷ qs) = elim (piece_written (room - length done) (piece_of q)).says [
  | Ok k ↦ list_from room (done ++ (piece_written (room - length done) (piece_of q)).numbers) qs
  | Err slip ↦ record { numbers = done; says = Err slip }
]

-- the numbers of a word, with room for so many
unfoldable pub list_of : ℕ → List ℕ → Writing
list_of room w = list_from room [] (pieces w)
