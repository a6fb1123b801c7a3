-- The numbers of a word, piece by piece, in a lent buffer.
--   Kept, kept_written                what is written where all is well, and that nothing is where it is not
--   Into, into                        numbers written behind those that stand in the buffer
--   Reading, reading_none, reading_on, reading_stop, reading_wrong, reading_end   a loop that reads a word: its first pieces are written
use mathlib.Core.Path.{◌≡◌, refl, sym, ap, subst, ◌∙◌}
use mathlib.Core.Bool.{Bool, true, false}
use mathlib.Core.List.{List, [], ◌∷◌, ◌++◌, append-nil}
use Prim.Native.Nat.{ℕ, ◌+◌, ◌-◌, ◌<◌}
use native.Mathlib.Omega.{arith}
use lib.Dec.{eqb, leb}
use lib.ListN.{length, get_or, drop, replicate, length-drop, drop_of_length-le}
use borrow.Rule.Slice.PartMut.{mid_of, put_mid}
use Rattle.std.specs.Prelude.{Result, Ok, Err}
use Rattle.std.proofs.lemmas.List.{drop_more}
use Rattle.words.specs.Lent.{over}
use Rattle.words.proofs.Over.{Filled, filled_none, filled_rest, filled_part}
use Rattle.request.specs.declared.Slip.{Slip}
use Rattle.request.specs.declared.Piece.{Piece}
use Rattle.request.specs.Cut.{pieces}
use Rattle.request.specs.Drawn.{start, drawn}
use Rattle.request.specs.Piece.{piece_of}
use Rattle.request.specs.Listed.{Writing, placed, piece_written, list_from, list_of}
use Rattle.request.proofs.Fitting.{list_on}
use Rattle.request.proofs.Placed.{Left}

-- as many numbers as it says, and none where something is wrong
pub record Kept (w : Writing) : Type 0 where
  pub length_said : (k : ℕ) → w.says ≡ Ok k → length w.numbers ≡ k
  pub none_wrong : (slip : Slip) → w.says ≡ Err slip → w.numbers ≡ []

kept_all : (l : List ℕ) → Kept (record { numbers = l; says = Ok (length l) })
kept_all l = record { length_said = λ k e. cc; none_wrong = λ slip e. cc }

kept_none : (slip : Slip) → Kept (record { numbers = []; says = Err slip })
kept_none slip = record { length_said = λ k e. cc; none_wrong = λ s e. refl }

kept_placed : (room : ℕ) (l : List ℕ) → Kept (placed room l)
unfolding placed
kept_placed room l = go (leb (length l) room) refl
  where
    go : (b : Bool) → leb (length l) room ≡ b → Kept (placed room l)
    go true e = rw (e, placed) (kept_all l)
    go false e = rw (e, placed) (kept_none Slip.TooLong)

pub kept_written : (room : ℕ) (p : Result Piece Slip) → Kept (piece_written room p)
unfolding piece_written
kept_written room (Ok (Piece.Same v k)) = kept_placed room (replicate k v)
kept_written room (Ok (Piece.Drawn x m k)) = go (eqb m 0) refl
  where
    go : (b : Bool) → eqb m 0 ≡ b → Kept (piece_written room (Ok (Piece.Drawn x m k)))
    go true e = rw (e, piece_written) (kept_none Slip.NoModulus)
    go false e = rw (e, piece_written) (kept_placed room (drawn m k (start x)))
kept_written room (Err slip) = kept_none slip

-- one piece that is none
module _ (room : ℕ) (done q : List ℕ) (qs : List (List ℕ)) where
  list_stop : (slip : Slip) → (piece_written (room - length done) (piece_of q)).says ≡ Err slip → list_from room done (q ∷ qs) ≡ record { numbers = done; says = Err slip }
  unfolding list_from
  list_stop slip e = rw (e, list_from)

-- numbers that depend on the room, written to `&mut out[used..]`: the answer, and the whole buffer
pub record Into (g : ℕ → Writing) (done lent out : List ℕ) (used : ℕ) (says : Result ℕ Slip) (new : List ℕ) : Type 0 where
  pub told : says ≡ (g (length lent - length done)).says
  pub stands : (k : ℕ) → length (g (length lent - length done)).numbers ≡ k
      → Filled (done ++ (g (length lent - length done)).numbers) lent (put_mid used (length out - used) out new) (used + k)

pub into : {done lent out : List ℕ} {used : ℕ} → Filled done lent out used → (g : ℕ → Writing) {says : Result ℕ Slip} {new : List ℕ}
    → Left (g (length (mid_of used (length out - used) out))) (mid_of used (length out - used) out) says new → length (put_mid used (length out - used) out new) ≡ length lent
    → Into g done lent out used says new
into {done} {lent} {out} {used} f g w same =
    let room : g (length (mid_of used (length out - used) out)) ≡ g (length lent - length done) = ap g (ap length (filled_rest f) ∙ length-drop (length done) lent) in record {
      told = w.0 ∙ ap (λ (x : Writing). x.says) room;
      stands = λ k l. filled_part f _ l (w.1 ∙ ap (λ (x : Writing). over x.numbers (mid_of used (length out - used) out)) room) same;
    }

-- the first n pieces are written, and the others are left
pub record Reading (word lent out : List ℕ) (n used : ℕ) : Type 0 where
  pub done : List ℕ
  pub filled : Filled done lent out used
  pub left : list_of (length lent) word ≡ list_from (length lent) done (drop n (pieces word))

pub reading_none : (word lent : List ℕ) → Reading word lent lent 0 0
unfolding list_of
reading_none word lent = record { done = []; filled = filled_none lent; left = refl }

left_as : {w : Writing} (lent : List ℕ) {out done : List ℕ} {says : Result ℕ Slip} → w ≡ record { numbers = done; says = says } → out ≡ over done lent → Left w lent says out
left_as lent e f = (sym (ap (λ (x : Writing). x.says) e), f ∙ sym (ap (λ (x : Writing). over x.numbers lent) e))

module _ {word lent out : List ℕ} {n used : ℕ} (r : Reading word lent out n used) where
  pub reading_end : n ≡ length (pieces word) → Left (list_of (length lent) word) lent (Ok used) out
  unfolding list_from
  reading_end h =
      left_as lent {done = r.done} (r.left ∙ ap (list_from (length lent) r.done) (drop_of_length-le (pieces word) (omega (arith, h))) ∙ rw r.filled.count) r.filled.written

  -- one turn: the next piece
  module _ (h : n < length (pieces word)) {part : List ℕ} (e : part ≡ get_or (pieces word) n part) where
    next : list_of (length lent) word ≡ list_from (length lent) r.done (part ∷ drop (n + 1) (pieces word))
    next = r.left ∙ ap (list_from (length lent) r.done) (drop_more (pieces word) n part h ∙ ap (λ (q : List ℕ). q ∷ drop (n + 1) (pieces word)) (sym e))

    -- it is none
    pub reading_stop : {slip : Slip} → Err slip ≡ piece_of part → Left (list_of (length lent) word) lent (Err slip) out
    unfolding piece_written
    reading_stop {slip} p = left_as lent (next ∙ list_stop (length lent) r.done _ _ slip (ap (λ (x : Result Piece Slip). (piece_written (length lent - length r.done) x).says) (sym p))) r.filled.written

    -- what writing it left of `&mut out[used..]`
    module _ {p : Piece} (q : Ok p ≡ piece_of part) {says : Result ℕ Slip} {new : List ℕ}
        (w : Left (piece_written (length (mid_of used (length out - used) out)) (Ok p)) (mid_of used (length out - used) out) says new)
        (same : length (put_mid used (length out - used) out new) ≡ length lent) where
      written : Into (λ room. piece_written room (piece_of part)) r.done lent out used says new
      written = into r.filled _ (subst (λ (x : Result Piece Slip). Left (piece_written (length (mid_of used (length out - used) out)) x) (mid_of used (length out - used) out) says new) q w) same

      kept : Kept (piece_written (length lent - length r.done) (piece_of part))
      kept = kept_written _ _

      pub reading_on : {k : ℕ} → says ≡ Ok k → Reading word lent (put_mid used (length out - used) out new) (n + 1) (used + k)
      reading_on {k} t = record {
        done = _;
        filled = written.stands k (kept.length_said k (sym written.told ∙ t));
        left = next ∙ list_on (length lent) r.done _ _ k (sym written.told ∙ t);
      }

      pub reading_wrong : {slip : Slip} → says ≡ Err slip → Left (list_of (length lent) word) lent (Err slip) (put_mid used (length out - used) out new)
      reading_wrong {slip} t =
          left_as lent (next ∙ list_stop (length lent) r.done _ _ slip (sym written.told ∙ t))
          ((written.stands _ refl).written ∙ ap (λ (l : List ℕ). over l lent) (ap (λ (l : List ℕ). r.done ++ l) (kept.none_wrong slip (sym written.told ∙ t)) ∙ append-nil r.done))
