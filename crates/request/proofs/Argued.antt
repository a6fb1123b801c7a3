-- The arguments of a text, word by word, in two lent buffers.
--   argue_on, argue_stop, argue_full   one word more: a list, something that is none, or one word too many
--   Arguing, arguing_none, arguing_on, arguing_stop, arguing_full, arguing_end   a loop that reads a text: the words before its position are read
use mathlib.Core.Path.{◌≡◌, refl, sym, ap, ◌∙◌}
use mathlib.Core.List.{List, [], ◌∷◌, ◌++◌}
use Prim.Native.Nat.{ℕ, ◌+◌, ◌-◌, ◌≤◌, ◌<◌}
use native.Mathlib.Omega.{arith}
use borrow.Author.Tests.{lt-ltb, le-ltb}
use lib.ListN.{length, set}
use borrow.Rule.Slice.PartMut.{mid_of, put_mid}
use Rattle.std.specs.Prelude.{Result, Ok, Err}
use Rattle.words.specs.Lent.{over}
use Rattle.words.proofs.Over.{Filled, filled_none, filled_word}
use Rattle.tokens.specs.Tokens.{Tokens, text_end, word, rest, tokens}
use Rattle.tokens.specs.declared.Position.{Position}
use Rattle.tokens.specs.Taking.{IsPosition}
use Rattle.request.specs.declared.Slip.{Slip}
use Rattle.request.specs.Listed.{list_of}
use Rattle.request.specs.Arguments.{Argued, words_of, argue_from, arguments_of}
use Rattle.request.proofs.Placed.{Left}
use Rattle.request.proofs.Fitting.{list_length}
use Rattle.request.proofs.Lists.{Into, into}

module _ (room places : ℕ) (done ended w : List ℕ) (ws : List (List ℕ)) where
  argue_full : places ≤ length ended → argue_from room places done ended (w ∷ ws) ≡ record { numbers = done; ends = ended; says = Err Slip.TooMany }
  unfolding argue_from
  argue_full h = rw (le-ltb (length ended) places h, argue_from)

  module _ (h : length ended < places) where
    argue_on : (k : ℕ) → (list_of (room - length done) w).says ≡ Ok k
        → argue_from room places done ended (w ∷ ws) ≡ argue_from room places (done ++ (list_of (room - length done) w).numbers) (ended ++ ((length done + k) ∷ [])) ws
    unfolding argue_from
    argue_on k e = rw (lt-ltb (length ended) places h, e, argue_from)

    argue_stop : (slip : Slip) → (list_of (room - length done) w).says ≡ Err slip
        → argue_from room places done ended (w ∷ ws) ≡ record { numbers = done ++ (list_of (room - length done) w).numbers; ends = ended; says = Err slip }
    unfolding argue_from
    argue_stop slip e = rw (lt-ltb (length ended) places h, e, argue_from)

-- the words before the position are read, and those from it on are left
pub record Arguing (text lent marks values ends : List ℕ) (p : Position) (used count : ℕ) : Type 0 where
  pub here : IsPosition text p
  pub done : List ℕ
  pub ended : List ℕ
  pub filled : Filled done lent values used
  pub marked : Filled ended marks ends count
  pub left : arguments_of (length lent) (length marks) text ≡ argue_from (length lent) (length marks) done ended (words_of (rest text p.at p.line))

pub arguing_none : (text lent marks : List ℕ) → Arguing text lent marks lent marks (record { at = 0; line = 1 }) 0 0
unfolding arguments_of tokens rest
arguing_none text lent marks = record {
  here = record { inside = omega arith; lines = omega arith };
  done = [];
  ended = [];
  filled = filled_none lent;
  marked = filled_none marks;
  left = refl;
}

-- the answer, and what is left of the two buffers
abbrev pub Answered : Argued → List ℕ → List ℕ → Result ℕ Slip → List ℕ → List ℕ → Type 0
Answered a lent marks says values ends = (says ≡ a.says) × ((values ≡ over a.numbers lent) × (ends ≡ over a.ends marks))

answered_as : {a : Argued} {lent marks values ends done ended : List ℕ} {used count : ℕ} {says : Result ℕ Slip} → a ≡ record { numbers = done; ends = ended; says = says } → Filled done lent values used
    → Filled ended marks ends count → Answered a lent marks says values ends
answered_as {lent = lent} {marks} e f g = (
  sym (ap (λ (x : Argued). x.says) e),
  (f.written ∙ sym (ap (λ (x : Argued). over x.numbers lent) e), g.written ∙ sym (ap (λ (x : Argued). over x.ends marks) e)),
)

module _ {text lent marks values ends : List ℕ} {p : Position} {used count : ℕ} (a : Arguing text lent marks values ends p used count) where
  pub arguing_end : {l : ℕ} → rest text p.at p.line ≡ text_end l → Answered (arguments_of (length lent) (length marks) text) lent marks (Ok count) values ends
  unfolding argue_from words_of
  arguing_end e =
      answered_as
      (a.left ∙ ap (λ (t : Tokens). argue_from (length lent) (length marks) a.done a.ended (words_of t)) e ∙ rw a.marked.count)
      a.filled a.marked

  -- one turn: a word, and what reading it as a list left of `&mut values[used..]`
  module _ {w : List ℕ} {l : ℕ} (to : ℕ) (e : rest text p.at p.line ≡ word l w (rest text to l)) where
    next : arguments_of (length lent) (length marks) text ≡ argue_from (length lent) (length marks) a.done a.ended (w ∷ words_of (rest text to l))
    unfolding words_of
    next = a.left ∙ ap (λ (t : Tokens). argue_from (length lent) (length marks) a.done a.ended (words_of t)) e

    pub arguing_full : length ends ≤ count → Answered (arguments_of (length lent) (length marks) text) lent marks (Err Slip.TooMany) values ends
    arguing_full h =
        answered_as (next ∙ argue_full (length lent) (length marks) a.done a.ended w _ (omega arith)) a.filled a.marked

    module _ (h : count < length ends) {says : Result ℕ Slip} {new : List ℕ}
        (r : Left (list_of (length (mid_of used (length values - used) values)) w) (mid_of used (length values - used) values) says new)
        (same : length (put_mid used (length values - used) values new) ≡ length lent) where
      written : Into (λ n. list_of n w) a.done lent values used says new
      written = into a.filled _ r same

      pub arguing_on : {k : ℕ} → says ≡ Ok k → IsPosition text (record { at = to; line = l }) → Arguing text lent marks (put_mid used (length values - used) values new) (set ends count (used + k)) (record { at = to; line = l }) (used + k) (count + 1)
      arguing_on {k} t i = record {
        here = i;
        done = _;
        ended = a.ended ++ ((used + k) ∷ []);
        filled = written.stands k (list_length _ w k (sym written.told ∙ t));
        marked = filled_word a.marked (used + k) h;
        left = next ∙ argue_on (length lent) (length marks) a.done a.ended w _ (omega arith) k (sym written.told ∙ t) ∙ rw a.filled.count;
      }

      pub arguing_stop : {slip : Slip} → says ≡ Err slip
          → Answered (arguments_of (length lent) (length marks) text) lent marks (Err slip) (put_mid used (length values - used) values new) ends
      arguing_stop {slip} t =
          answered_as (next ∙ argue_stop (length lent) (length marks) a.done a.ended w _ (omega arith) slip (sym written.told ∙ t)) (written.stands _ refl) a.marked
