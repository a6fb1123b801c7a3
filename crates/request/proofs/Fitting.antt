-- A list that fits its room is the same in every larger one, and is as long as reading it answers.
use mathlib.Core.Path.{◌≡◌, refl, ap, ◌∙◌}
use mathlib.Core.List.{List, [], ◌∷◌, ◌++◌}
use Prim.Native.Nat.{ℕ, ◌-◌, ◌≤◌}
use native.Mathlib.Decide.{dec_lt, ℕ_discrete}
use native.Mathlib.Omega.{arith}
use lib.ListN.{length, replicate}
use borrow.Author.Tests.{le-leb, lt-leb, eq-eqb, ne_eqb}
use Rattle.std.specs.Prelude.{Result, Ok, Err}
use Rattle.request.specs.declared.Slip.{Slip}
use Rattle.request.specs.declared.Piece.{Piece}
use Rattle.request.specs.Cut.{pieces}
use Rattle.request.specs.Drawn.{start, drawn}
use Rattle.request.specs.Piece.{piece_of}
use Rattle.request.specs.Listed.{placed, piece_written, list_from, list_of}

module _ (room room' : ℕ) (wider : room ≤ room') where
  placed_wider : (l : List ℕ) (k : ℕ) → (placed room l).says ≡ Ok k → placed room' l ≡ placed room l
  unfolding placed
  placed_wider l k h = elim (dec_lt room (length l)) [
    | yes p ↦ (let e = rw (lt-leb (length l) room p, placed) at h in cc)
    | no p ↦ rw (le-leb (length l) room (omega arith), le-leb (length l) room' (omega arith), placed)
  ]

  piece_wider : (p : Result Piece Slip) (k : ℕ) → (piece_written room p).says ≡ Ok k → piece_written room' p ≡ piece_written room p
  unfolding piece_written
  piece_wider (Ok (Piece.Same v n)) k h = placed_wider (replicate n v) k h
  piece_wider (Ok (Piece.Drawn x m n)) k h = elim (ℕ_discrete m 0) [
    | yes e ↦ rw (eq-eqb m 0 e, piece_written)
    | no e ↦ rw (ne_eqb m 0 e, piece_written) (placed_wider (drawn m n (start x)) k (rw (ne_eqb m 0 e, piece_written) at h))
  ]
  piece_wider (Err slip) k h = refl

-- a list that goes on behind the piece q
module _ (room : ℕ) (done q : List ℕ) (qs : List (List ℕ)) where
  pub list_on : (n : ℕ) → (piece_written (room - length done) (piece_of q)).says ≡ Ok n
      → list_from room done (q ∷ qs) ≡ list_from room (done ++ (piece_written (room - length done) (piece_of q)).numbers) qs
  unfolding list_from
  list_on n e = rw (e, list_from)

  fitted : (k : ℕ) → (list_from room done (q ∷ qs)).says ≡ Ok k → (n : ℕ) × ((piece_written (room - length done) (piece_of q)).says ≡ Ok n)
  unfolding list_from
  fitted k h = go (piece_written (room - length done) (piece_of q)).says refl
    where
      go : (says : Result ℕ Slip) → (piece_written (room - length done) (piece_of q)).says ≡ says → (n : ℕ) × ((piece_written (room - length done) (piece_of q)).says ≡ Ok n)
      go (Ok n) e = (n, e)
      go (Err slip) e = let f = rw (e, list_from) at h in cc

from_length : (room : ℕ) (done : List ℕ) (qs : List (List ℕ)) (k : ℕ) → (list_from room done qs).says ≡ Ok k → length (list_from room done qs).numbers ≡ k
unfolding list_from
from_length room done [] k h = cc
from_length room done (q ∷ qs) k h =
    let p = fitted room done q qs k h in
    let e = list_on room done q qs p.0 p.1 in
    rw e (from_length room (done ++ (piece_written (room - length done) (piece_of q)).numbers) qs k (rw e at h))

list_wider : (room room' : ℕ) → room ≤ room' → (done : List ℕ) (qs : List (List ℕ)) (k : ℕ) → (list_from room done qs).says ≡ Ok k → list_from room' done qs ≡ list_from room done qs
unfolding list_from
list_wider room room' wider done [] k h = refl
list_wider room room' wider done (q ∷ qs) k h =
    let p = fitted room done q qs k h in
    let e = list_on room done q qs p.0 p.1 in
    let s = piece_wider (room - length done) (room' - length done) (omega arith) (piece_of q) p.0 p.1 in
    rw (list_on room' done q qs p.0 (ap (λ w. w.says) s ∙ p.1), s, e) (list_wider room room' wider (done ++ (piece_written (room - length done) (piece_of q)).numbers) qs k (rw e at h))

pub list_length : (room : ℕ) (w : List ℕ) (k : ℕ) → (list_of room w).says ≡ Ok k → length (list_of room w).numbers ≡ k
unfolding list_of
list_length room w k h = from_length room [] (pieces w) k h

pub list_fits : (room room' : ℕ) (w : List ℕ) (k : ℕ) → (list_of room w).says ≡ Ok k → room ≤ room' → list_of room' w ≡ list_of room w
unfolding list_of
list_fits room room' w k h wider = list_wider room room' wider [] (pieces w) k h
