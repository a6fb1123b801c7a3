-- What reading the words of a line gives: each argument is the list of its word.
use mathlib.Core.Path.{◌≡◌, refl, sym, ◌∙◌}
use mathlib.Core.List.{List, [], ◌∷◌}
use Prim.Native.Nat.{ℕ, ◌<◌}
use lib.ListN.{length, get_or, take}
use Rattle.std.specs.Prelude.{Ok, Err}
use Rattle.words.specs.Lent.{over}
use Rattle.words.proofs.Over.{first_over}
use Rattle.tokens.specs.Tokens.{tokens}
use Rattle.tokens.specs.Number.{numeral_from, numeral_of}
use Rattle.request.specs.declared.Slip.{Slip}
use Rattle.request.specs.Cut.{pieces}
use Rattle.request.specs.Drawn.{start, next, drawn}
use Rattle.request.specs.Piece.{then_of, same_piece, drawn_of, repeated_of, piece_of}
use Rattle.request.specs.Listed.{placed, piece_written, list_from, list_of}
use Rattle.request.specs.Arguments.{words_of, arguments_of}
use Rattle.request.specs.Argument.{argument_of}
use Rattle.request.proofs.WordsRead.{Read, read_none, argued, more_numbers}

module _ (room places k : ℕ) (text : List ℕ) (h : (arguments_of room places text).says ≡ Ok k) where
  read : Read room (words_of (tokens text)) (arguments_of room places text).numbers (arguments_of room places text).ends × (k ≡ length (arguments_of room places text).ends)
  unfolding arguments_of
  read = argued room places [] [] [] (words_of (tokens text)) k (read_none room) h

  -- there is an argument for each word, and it is the word's list
  pub arguments_read : (k ≡ length (words_of (tokens text)))
      × ((i : ℕ) → i < k
      → (argument_of (arguments_of room places text).numbers (arguments_of room places text).ends i ≡ (list_of room (get_or (words_of (tokens text)) i [])).numbers)
      × ((list_of room (get_or (words_of (tokens text)) i [])).says ≡ Ok (length (list_of room (get_or (words_of (tokens text)) i [])).numbers)))
  arguments_read = let c = read.1 ∙ read.0.count in (c, λ i b. read.0.each i (rw c at b))

  -- the arguments are the same in what was written over lent buffers
  pub arguments_kept : (values lent ends lent-ends : List ℕ) → values ≡ over (arguments_of room places text).numbers lent
      → ends ≡ take k (over (arguments_of room places text).ends lent-ends)
      → (i : ℕ) → argument_of values ends i ≡ argument_of (arguments_of room places text).numbers (arguments_of room places text).ends i
  arguments_kept values lent ends lent-ends v e i =
      rw (v, e, first_over (arguments_of room places text).ends lent-ends k _ (sym read.1) refl)
      (more_numbers (arguments_of room places text).numbers _ (arguments_of room places text).ends i (read.0.inside i))

-- "6,0*2,1", "45%101*3" and "9*0"; and an empty piece
pub worked :
    (list_of 4 (54 ∷ 44 ∷ 48 ∷ 42 ∷ 50 ∷ 44 ∷ 49 ∷ []) ≡ record { numbers = 6 ∷ 0 ∷ 0 ∷ 1 ∷ []; says = Ok 4 })
    × (list_of 4 (52 ∷ 53 ∷ 37 ∷ 49 ∷ 48 ∷ 49 ∷ 42 ∷ 51 ∷ []) ≡ record { numbers = 32 ∷ 53 ∷ 0 ∷ []; says = Ok 3 })
    × (list_of 4 (57 ∷ 42 ∷ 48 ∷ []) ≡ record { numbers = []; says = Ok 0 })
    × (piece_of [] ≡ Err Slip.NotNumber)
unfolding list_of list_from piece_written placed pieces piece_of repeated_of drawn_of same_piece then_of numeral_of numeral_from start next drawn
worked = (refl, refl, refl, refl)
