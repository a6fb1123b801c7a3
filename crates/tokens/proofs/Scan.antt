-- The scan, from a position of the text.
use mathlib.Core.Path.{◌≡◌, refl, sym, ap, ◌∙◌}
use mathlib.Core.Bool.{Bool, true, false}
use mathlib.Core.List.{List, [], ◌∷◌, ◌++◌}
use Prim.Native.Nat.{ℕ, suc, ◌+◌, ◌-◌, ◌≤◌, ◌<◌}
use native.Mathlib.Numerals.{add-one}
use native.Mathlib.Omega.{arith}
use lib.Dec.{eqb}
use lib.ListN.{length, get_or, take, drop, length-drop, drop_of_length-le}
use lib.Seq.{drop-cons, drop-drop, append_snoc}
use Rattle.std.specs.List.{position_or_len}
use Rattle.std.proofs.lemmas.List.{append-nil}
use Rattle.std.proofs.lemmas.List.Sums.{prefix_len-le-length}
use Rattle.tokens.specs.declared.Class.{Class}
use Rattle.tokens.specs.Tokens.{text_end, word, class_of, ends, between, comment, within, scan, rest}

-- how many bytes stand before the end of the line, and of the word
abbrev pub to_line_end : List ℕ → ℕ
to_line_end xs = position_or_len (λ b. eqb b 10) xs

abbrev pub to_word_end : List ℕ → ℕ
to_word_end xs = position_or_len (λ b. ends (class_of b)) xs

module _ (b : ℕ) (t : List ℕ) where
  ended : ends (class_of b) ≡ true → to_word_end (b ∷ t) ≡ 0
  ended h = rw h

  goes_on : ends (class_of b) ≡ false → to_word_end (b ∷ t) ≡ suc (to_word_end t)
  goes_on h = rw h (omega arith)

  same_line : eqb b 10 ≡ false → to_line_end (b ∷ t) ≡ suc (to_line_end t)
  same_line h = rw h (omega arith)

  module _ (l : ℕ) where
    step_newline : class_of b ≡ Class.Newline → scan between l (b ∷ t) ≡ scan between (suc l) t
    unfolding scan
    step_newline h = rw (h, scan)

    step_blank : class_of b ≡ Class.Blank → scan between l (b ∷ t) ≡ scan between l t
    unfolding scan
    step_blank h = rw (h, scan)

    step_hash : class_of b ≡ Class.Hash → scan between l (b ∷ t) ≡ scan comment l t
    unfolding scan
    step_hash h = rw (h, scan)

    step_other : class_of b ≡ Class.Other → scan between l (b ∷ t) ≡ scan (within []) l (b ∷ t)
    unfolding scan
    step_other h = rw (h, scan)

    comment_on : eqb b 10 ≡ false → scan comment l (b ∷ t) ≡ scan comment l t
    unfolding scan
    comment_on h = rw (h, scan)

    comment_off : eqb b 10 ≡ true → scan comment l (b ∷ t) ≡ scan between l (b ∷ t)
    unfolding scan class_of
    comment_off h = rw (h, scan)

    word_on : (w : List ℕ) → class_of b ≡ Class.Other → scan (within w) l (b ∷ t) ≡ scan (within (w ++ (b ∷ []))) l t
    unfolding scan
    word_on w h = rw (h, scan)

    word_off : (w : List ℕ) (c : Class) → class_of b ≡ c → ends c ≡ true → scan (within w) l (b ∷ t) ≡ word l w (scan between l (b ∷ t))
    unfolding scan
    word_off w Class.Newline h e = rw (h, scan)
    word_off w Class.Hash h e = rw (h, scan)
    word_off w Class.Blank h e = rw (h, scan)
    word_off w Class.Other h e = cc

comment_ends : (xs : List ℕ) (l : ℕ) → scan comment l xs ≡ scan between l (drop (to_line_end xs) xs)
unfolding scan
comment_ends [] l = refl
comment_ends (b ∷ t) l = go (eqb b 10) refl (comment_ends t l)
  where
    go : (q : Bool) → eqb b 10 ≡ q → scan comment l t ≡ scan between l (drop (to_line_end t) t) → scan comment l (b ∷ t) ≡ scan between l (drop (to_line_end (b ∷ t)) (b ∷ t))
    go true e r = comment_off b t l e ∙ rw e
    go false e r = comment_on b t l e ∙ r ∙ rw (same_line b t e)

word_ends : (xs w : List ℕ) (l : ℕ) → scan (within w) l xs ≡ word l (w ++ take (to_word_end xs) xs) (scan between l (drop (to_word_end xs) xs))
unfolding scan
word_ends [] w l = rw append-nil
word_ends (b ∷ t) w l = go (class_of b) refl (word_ends t (w ++ (b ∷ [])) l)
  where
    go : (c : Class) → class_of b ≡ c
        → scan (within (w ++ (b ∷ []))) l t ≡ word l ((w ++ (b ∷ [])) ++ take (to_word_end t) t) (scan between l (drop (to_word_end t) t))
        → scan (within w) l (b ∷ t) ≡ word l (w ++ take (to_word_end (b ∷ t)) (b ∷ t)) (scan between l (drop (to_word_end (b ∷ t)) (b ∷ t)))
    go Class.Other e r = word_on b t l w e ∙ r ∙ rw (goes_on b t (ap ends e), append_snoc)
    go Class.Newline e r = word_off b t l w _ e refl ∙ rw (ended b t (ap ends e), append-nil)
    go Class.Hash e r = word_off b t l w _ e refl ∙ rw (ended b t (ap ends e), append-nil)
    go Class.Blank e r = word_off b t l w _ e refl ∙ rw (ended b t (ap ends e), append-nil)

-- at a position before the end
module _ (text : List ℕ) (at : ℕ) (h : at < length text) where
  here : drop at text ≡ get_or text at 0 ∷ drop (at + 1) text
  here = rw (add-one at) (drop-cons text at 0 h)

  pub rest_newline : (l : ℕ) → class_of (get_or text at 0) ≡ Class.Newline → rest text at l ≡ rest text (at + 1) (l + 1)
  unfolding rest
  rest_newline l c = ap (scan between l) here ∙ step_newline (get_or text at 0) (drop (at + 1) text) l c ∙ rw (add-one l)

  pub rest_blank : (l : ℕ) → class_of (get_or text at 0) ≡ Class.Blank → rest text at l ≡ rest text (at + 1) l
  unfolding rest
  rest_blank l c = ap (scan between l) here ∙ step_blank (get_or text at 0) (drop (at + 1) text) l c

  pub rest_hash : (l : ℕ) → class_of (get_or text at 0) ≡ Class.Hash → rest text at l ≡ scan comment l (drop (at + 1) text)
  unfolding rest
  rest_hash l c = ap (scan between l) here ∙ step_hash (get_or text at 0) (drop (at + 1) text) l c

  rest_word : (l : ℕ) → class_of (get_or text at 0) ≡ Class.Other → rest text at l ≡ scan (within []) l (drop at text)
  unfolding rest
  rest_word l c =
      ap (scan between l) here ∙ step_other (get_or text at 0) (drop (at + 1) text) l c ∙ sym (ap (scan (within []) l) here)

-- how far the word reaches that begins here, and the comment that does
module _ (text : List ℕ) (at end : ℕ) (h : at ≤ length text) where
  pub comment_passed : end ≡ at + to_line_end (drop at text)
      → (at ≤ end) × (end ≤ length text) × ((l : ℕ) → scan comment l (drop at text) ≡ rest text end l)
  unfolding rest
  comment_passed e =
      let b : to_line_end (drop at text) ≤ length (drop at text) = prefix_len-le-length _ (drop at text) in
      (omega arith, omega (arith, length-drop at text), λ l. comment_ends (drop at text) l ∙ rw (e, drop-drop))

  pub word_passed : at < length text → class_of (get_or text at 0) ≡ Class.Other → end ≡ at + to_word_end (drop at text)
      → (at < end) × (end ≤ length text) × ((l : ℕ) → rest text at l ≡ word l (take (end - at) (drop at text)) (rest text end l))
  unfolding rest
  word_passed g c e =
      let b : to_word_end (drop at text) ≤ length (drop at text) = prefix_len-le-length _ (drop at text) in
      let a : to_word_end (drop at text) ≡ suc (to_word_end (drop (at + 1) text)) = ap to_word_end (here text at g) ∙ goes_on (get_or text at 0) (drop (at + 1) text) (ap ends c) in
      let n : end - at ≡ to_word_end (drop at text) = omega arith in
      (omega arith, omega (arith, length-drop at text), λ l. rest_word text at g l c ∙ word_ends (drop at text) [] l ∙ rw (n, e, drop-drop))

-- past the end
pub rest_past : (text : List ℕ) (at : ℕ) → length text ≤ at → (l : ℕ) → rest text at l ≡ text_end l
unfolding rest scan
rest_past text at h l = ap (scan between l) (drop_of_length-le text h)
