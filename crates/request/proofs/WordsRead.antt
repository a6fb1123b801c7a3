-- The numbers and ends of the words so far: what they say of each word stays when more numbers and ends follow.
use mathlib.Core.Path.{◌≡◌, refl, ◌∙◌}
use mathlib.Core.List.{List, [], ◌∷◌, ◌++◌, append-nil}
use Prim.Native.Nat.{ℕ, zero, suc, ◌+◌, ◌-◌, ◌≤◌, ◌<◌}
use native.Mathlib.Decide.{dec_lt}
use native.Mathlib.Numerals.{add-one}
use native.Mathlib.Omega.{arith}
use lib.ListN.{length, get_or, drop, length-append, length-drop, get_or-append}
use lib.Seq.{append_snoc, drop_at, drop-append-le, get_or-append_seam, take-append-le, take_all}
use borrow.Author.Tests.{lt-ltb, le-ltb}
use Rattle.std.specs.Prelude.{Result, Ok, Err}
use Rattle.request.specs.declared.Slip.{Slip}
use Rattle.request.specs.Listed.{list_of}
use Rattle.request.specs.Arguments.{argue_from}
use Rattle.request.specs.Argument.{start_of, argument_of}
use Rattle.request.proofs.Fitting.{list_length, list_fits}

-- the word's list fits, and its numbers are l
abbrev pub Lists : ℕ → List ℕ → List ℕ → Type 0
Lists room w l = (l ≡ (list_of room w).numbers) × ((list_of room w).says ≡ Ok (length (list_of room w).numbers))

-- the numbers and ends of these words
pub record Read (room : ℕ) (words : List (List ℕ)) (numbers ends : List ℕ) : Type 0 where
  pub count : length ends ≡ length words
  pub last : start_of ends (length ends) ≡ length numbers
  pub inside : (i : ℕ) → get_or ends i 0 ≤ length numbers
  pub each : (i : ℕ) → i < length words → Lists room (get_or words i []) (argument_of numbers ends i)

pub read_none : (room : ℕ) → Read room [] [] []
unfolding start_of
read_none room = record { count = refl; last = refl; inside = λ i. omega arith; each = λ i h. absurd (omega arith) }

pub more_numbers : (numbers more ends : List ℕ) (i : ℕ) → get_or ends i 0 ≤ length numbers → argument_of (numbers ++ more) ends i ≡ argument_of numbers ends i
unfolding argument_of
more_numbers numbers more ends i h = elim (dec_lt (length numbers) (start_of ends i)) [
  | yes p ↦ let e : get_or ends i 0 - start_of ends i ≡ 0 = omega arith in rw e
  | no p ↦
      rw (drop-append-le (start_of ends i) numbers more (omega arith))
      (take-append-le (get_or ends i 0 - start_of ends i) (drop (start_of ends i) numbers) more (omega (arith, length-drop (start_of ends i) numbers)))
]

start_front : (ends more : List ℕ) (i : ℕ) → i ≤ length ends → start_of (ends ++ more) i ≡ start_of ends i
unfolding start_of
start_front ends more zero h = refl
start_front ends more (suc i) h = get_or-append ends more 0 i h

more_ends : (numbers ends more : List ℕ) (i : ℕ) → i < length ends → argument_of numbers (ends ++ more) i ≡ argument_of numbers ends i
unfolding argument_of
more_ends numbers ends more i h = rw (start_front ends more i (omega arith), get_or-append ends more 0 i h)

inside_one : (l : List ℕ) (e b : ℕ) → ((i : ℕ) → get_or l i 0 ≤ b) → e ≤ b → (i : ℕ) → get_or (l ++ (e ∷ [])) i 0 ≤ b
inside_one [] e b h g zero = g
inside_one [] e b h g (suc i) = omega arith
inside_one (x ∷ l) e b h g zero = h zero
inside_one (x ∷ l) e b h g (suc i) = inside_one l e b (λ j. h (suc j)) g i

each_one : {A : Type 0} (P : ℕ → A → Type 0) (l : List A) (a d : A) → ((i : ℕ) → i < length l → P i (get_or l i d)) → P (length l) a
    → (i : ℕ) → i < length (l ++ (a ∷ [])) → P i (get_or (l ++ (a ∷ [])) i d)
each_one P [] a d h g zero b = g
each_one P [] a d h g (suc i) b = absurd (omega arith)
each_one P (x ∷ l) a d h g zero b = h zero (omega arith)
each_one P (x ∷ l) a d h g (suc i) b = each_one (λ j. P (suc j)) l a d (λ j c. h (suc j) (omega arith)) g i (omega arith)

-- one word more, with its numbers l
module _ (room : ℕ) (words : List (List ℕ)) (done ends : List ℕ) (before : Read room words done ends) (w l : List ℕ) (lists : Lists room w l) where
  argument_last : argument_of (done ++ l) (ends ++ ((length done + length l) ∷ [])) (length ends) ≡ l
  unfolding argument_of
  argument_last =
      let s : start_of (ends ++ ((length done + length l) ∷ [])) (length ends) ≡ length done = start_front ends _ (length ends) (omega arith) ∙ before.last in
      rw (s, get_or-append_seam ends (length done + length l) [] 0, drop_at done l (length done) refl) (take_all (length done + length l - length done) l (omega arith))

  argument_before : (i : ℕ) → i < length words → argument_of (done ++ l) (ends ++ ((length done + length l) ∷ [])) i ≡ argument_of done ends i
  argument_before i h = more_ends (done ++ l) ends _ i (omega (arith, before.count)) ∙ more_numbers done l ends i (before.inside i)

  read_one : Read room (words ++ (w ∷ [])) (done ++ l) (ends ++ ((length done + length l) ∷ []))
  unfolding start_of
  read_one = record {
    count = simp length-append (omega (arith, before.count));
    last = simp (length-append, add-one) (get_or-append_seam ends (length done + length l) [] 0);
    inside = inside_one ends _ _ (λ i. omega (arith, before.inside i, length-append done l)) (omega (arith, length-append done l));
    each = each_one (λ i v. Lists room v (argument_of (done ++ l) (ends ++ ((length done + length l) ∷ [])) i)) words w []
        (λ i h. (argument_before i h ∙ (before.each i h).0, (before.each i h).1)) (rw (← before.count) (argument_last ∙ lists.0, lists.1));
  }

-- the word w of a line whose words are arguments
module _ (room places : ℕ) (done ends w : List ℕ) (ws : List (List ℕ)) where
  abbrev list : List ℕ
  list = (list_of (room - length done) w).numbers

  abbrev Turned : Type 0
  Turned = Lists room w list × (argue_from room places done ends (w ∷ ws) ≡ argue_from room places (done ++ list) (ends ++ ((length done + length list) ∷ [])) ws)

  fitted : (n : ℕ) → length ends < places → (list_of (room - length done) w).says ≡ Ok n → Turned
  unfolding argue_from
  fitted n p e =
      let long = list_length (room - length done) w n e in
      (rw (list_fits (room - length done) room w n e (omega arith), long) (refl, e), rw (lt-ltb (length ends) places p, e, argue_from, long))

  turned : (k : ℕ) → (argue_from room places done ends (w ∷ ws)).says ≡ Ok k → Turned
  unfolding argue_from
  turned k h = elim (dec_lt (length ends) places) [
    | yes p ↦ go p (list_of (room - length done) w).says refl
    | no p ↦ (let e = rw (le-ltb (length ends) places (omega arith), argue_from) at h in cc)
  ]
    where
      go : length ends < places → (says : Result ℕ Slip) → (list_of (room - length done) w).says ≡ says → Turned
      go p (Ok n) e = fitted n p e
      go p (Err slip) e = let f = rw (lt-ltb (length ends) places p, e, argue_from) at h in cc

pub argued : (room places : ℕ) (words : List (List ℕ)) (done ends : List ℕ) (ws : List (List ℕ)) (k : ℕ) → Read room words done ends → (argue_from room places done ends ws).says ≡ Ok k
    → Read room (words ++ ws) (argue_from room places done ends ws).numbers (argue_from room places done ends ws).ends × (k ≡ length (argue_from room places done ends ws).ends)
unfolding argue_from
argued room places words done ends [] k before h = (rw append-nil before, cc)
argued room places words done ends (w ∷ ws) k before h =
    let t = turned room places done ends w ws k h in
    rw (t.1, ← append_snoc words w ws)
    (argued room places (words ++ (w ∷ [])) _ _ ws k (read_one room words done ends before w _ t.0) (rw t.1 at h))
