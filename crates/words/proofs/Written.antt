-- Loops that write a list from the front, word by word or part by part: what was passed holds the new, what is left the old.
--   Written, written_none, below_turn, written_turn   word by word
--   PartsDone, parts_none, parts_turn, parts_skip   part by part, for parts of w words
--   parts_turn_two                                 in two lists at once
--   set_from, all_set                               all words of a short list, one after the other
use mathlib.Core.Path.{◌≡◌, refl, ap, ◌∙◌}
use mathlib.Core.List.{List, [], ◌∷◌}
use Prim.Native.Nat.{ℕ, suc, ◌+◌, ◌*◌, ◌≤◌, ◌<◌}
use native.Mathlib.Decide.{ℕ_discrete}
use native.Mathlib.Omega.{arith}
use lib.ListN.{length, get_or, set, length-set}
use lib.Seq.{get_or-set_same, get_or-set_other}
use Rattle.words.specs.Part.{part}
use Rattle.words.proofs.Part.{put, put_length, put_same, put_other}

-- below t the list holds g, and from t on what it held at first
pub record Written (g : ℕ → ℕ) (first xs : List ℕ) (t : ℕ) : Type 0 where
  pub same : length xs ≡ length first
  pub done : (k : ℕ) → k < t → get_or xs k 0 ≡ g k
  pub left : (k : ℕ) → t ≤ k → get_or xs k 0 ≡ get_or first k 0

pub written_none : (g : ℕ → ℕ) (xs : List ℕ) → Written g xs xs 0
written_none g xs = record { same = refl; done = λ k h. absurd (omega arith); left = λ k h. refl }

-- one word more is g's
pub below_turn : (g : ℕ → ℕ) (xs : List ℕ) (t v : ℕ) → t < length xs → v ≡ g t → ((k : ℕ) → k < t → get_or xs k 0 ≡ g k) → (k : ℕ) → k < t + 1 → get_or (set xs t v) k 0 ≡ g k
below_turn g xs t v h e done k l = elim (ℕ_discrete k t) [
  | yes q ↦ rw q (get_or-set_same xs t v 0 h ∙ e)
  | no nq ↦ get_or-set_other xs t k v 0 nq ∙ done k (omega arith)
]

pub written_turn : (g : ℕ → ℕ) (first xs : List ℕ) (t v : ℕ) → t < length xs → v ≡ g t → Written g first xs t → Written g first (set xs t v) (t + 1)
written_turn g first xs t v h e w = record {
  same = length-set xs t v ∙ w.same;
  done = below_turn g xs t v h e w.done;
  left = λ k l. get_or-set_other xs t k v 0 (omega arith) ∙ w.left k (omega arith);
}

-- parts below k are done, and the others are as they were at first
pub record PartsDone (w : ℕ) (Done : ℕ → List ℕ → Type 0) (first xs : List ℕ) (k : ℕ) : Type 0 where
  pub same : length xs ≡ length first
  pub done : (l : ℕ) → l < k → Done l (part w l xs)
  pub left : (l : ℕ) → k ≤ l → part w l xs ≡ part w l first

pub parts_none : (w : ℕ) (Done : ℕ → List ℕ → Type 0) (xs : List ℕ) → PartsDone w Done xs xs 0
parts_none w Done xs = record { same = refl; done = λ l h. absurd (omega arith); left = λ l h. refl }

pub parts_turn : (w : ℕ) (Done : ℕ → List ℕ → Type 0) (first xs ys : List ℕ) (k : ℕ) → k * w + w ≤ length xs → length ys ≡ w → Done k ys
    → PartsDone w Done first xs k → PartsDone w Done first (put w k xs ys) (k + 1)
parts_turn w Done first xs ys k fits full d p = record {
  same = put_length w k xs ys fits full ∙ p.same;
  done = λ l h. elim (ℕ_discrete l k) [
    | yes q ↦ rw (q, put_same w k xs ys fits full) d
    | no nq ↦ rw (put_other w k xs ys fits full l nq) (p.done l (omega arith))
  ];
  left = λ l h. put_other w k xs ys fits full l (omega arith) ∙ p.left l (omega arith);
}

-- a part that is left as it is
pub parts_skip : (w : ℕ) (Done : ℕ → List ℕ → Type 0) (first xs : List ℕ) (k : ℕ) → Done k (part w k first)
    → PartsDone w Done first xs k → PartsDone w Done first xs (k + 1)
parts_skip w Done first xs k d p = record {
  same = p.same;
  done = λ l h. elim (ℕ_discrete l k) [
    | yes q ↦ rw (q, p.left k (omega arith)) d
    | no nq ↦ p.done l (omega arith)
  ];
  left = λ l h. p.left l (omega arith);
}

-- part k of both lists at once, where what a part has to be depends on the other list's part
pub parts_turn_two : (w v : ℕ) (Done : ℕ → List ℕ → List ℕ → Type 0) (first xs ys out zs : List ℕ) (k : ℕ)
    → k * w + w ≤ length xs → length ys ≡ w → k * v + v ≤ length out → length zs ≡ v → Done k ys zs
    → PartsDone w (λ l part-l. Done l part-l (part v l out)) first xs k
    → PartsDone w (λ l part-l. Done l part-l (part v l (put v k out zs))) first (put w k xs ys) (k + 1)
parts_turn_two w v Done first xs ys out zs k fits full fits' full' d p =
    parts_turn w (λ l part-l. Done l part-l (part v l (put v k out zs))) first xs ys k fits full (rw (put_same v k out zs fits' full') d) record {
      same = p.same;
      done = λ l h. rw (put_other v k out zs fits' full' l (omega arith)) (p.done l h);
      left = p.left;
    }

-- words written in turn from place i on
abbrev pub set_from : List ℕ → ℕ → List ℕ → List ℕ
set_from l i [] = l
set_from l i (w ∷ ws) = set_from (set l i w) (suc i) ws

past : (x : ℕ) (l : List ℕ) (i : ℕ) (ws : List ℕ) → set_from (x ∷ l) (suc i) ws ≡ x ∷ set_from l i ws
past x l i [] = refl
past x l i (w ∷ ws) = past x (set l i w) (suc i) ws

pub all_set : (l ws : List ℕ) → length l ≡ length ws → set_from l 0 ws ≡ ws
all_set [] [] e = refl
all_set (x ∷ l) [] e = absurd (omega (arith, e))
all_set [] (w ∷ ws) e = absurd (omega (arith, e))
all_set (x ∷ l) (w ∷ ws) e = past w l 0 ws ∙ ap (λ (r : List ℕ). w ∷ r) (all_set l ws (omega (arith, e)))
