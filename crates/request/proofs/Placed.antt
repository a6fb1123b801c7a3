-- What writing a piece leaves of a lent buffer, and what it answers.
use mathlib.Core.Path.{◌≡◌, refl}
use mathlib.Core.List.{List, ◌++◌}
use Prim.Native.Nat.{ℕ, ◌≤◌, ◌<◌}
use lib.ListN.{length, replicate, take, drop}
use lib.Seq.{length-take-le}
use borrow.Author.Tests.{eq-eqb, ne_eqb, le-leb, lt-leb}
use Rattle.std.specs.Prelude.{Result, Ok, Err}
use Rattle.words.specs.Lent.{over}
use Rattle.request.specs.declared.Slip.{Slip}
use Rattle.request.specs.declared.Piece.{Piece}
use Rattle.request.specs.Drawn.{start, drawn}
use Rattle.request.specs.Listed.{Writing, placed, piece_written}

-- the answer, and what is left of out
abbrev pub Left : Writing → List ℕ → Result ℕ Slip → List ℕ → Type 0
Left w out says left = (says ≡ w.says) × (left ≡ over w.numbers out)

-- k numbers, which g gives for each k
module _ (w : Writing) (out : List ℕ) (g : ℕ → List ℕ) (k : ℕ) (n : length (g k) ≡ k) (e : w ≡ placed (length out) (g k)) where
  pub left_placed : k ≤ length out → (front : List ℕ) → front ≡ g (length (take k out)) → Left w out (Ok k) (front ++ drop k out)
  unfolding placed
  left_placed h front f = rw (f, length-take-le k out h, e, n, le-leb k (length out) h, placed, n) (refl, refl)

  pub left_long : length out < k → Left w out (Err Slip.TooLong) out
  unfolding placed
  left_long h = rw (e, n, lt-leb k (length out) h, placed) (refl, refl)

module _ (p : Piece) (room : ℕ) where
  pub written_same : (v k : ℕ) → p ≡ Piece.Same v k → piece_written room (Ok p) ≡ placed room (replicate k v)
  unfolding piece_written
  written_same v k e = rw e

  pub written_drawn : (x m k : ℕ) → p ≡ Piece.Drawn x m k → (m ≡ 0 → ⊥) → piece_written room (Ok p) ≡ placed room (drawn m k (start x))
  unfolding piece_written
  written_drawn x m k e h = rw (e, ne_eqb m 0 h, piece_written)

module _ (p : Piece) (out : List ℕ) where
  pub left_unmoduled : (x m k : ℕ) → p ≡ Piece.Drawn x m k → m ≡ 0 → Left (piece_written (length out) (Ok p)) out (Err Slip.NoModulus) out
  unfolding piece_written
  left_unmoduled x m k e h = rw (e, eq-eqb m 0 h, piece_written) (refl, refl)
