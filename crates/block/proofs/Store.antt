-- Words stored in bytes: the length stays, the stored word is read back, the others are as they were, and words stored one after the
-- other are the bytes of their list.
use Rattle.std.proofs.Common.{◌≡◌, ℕ, zero, suc, ◌+◌, ◌-◌, ◌*◌, ◌/◌, ◌%◌, ◌<◌, ◌≤◌, ◌≢◌, List, [], ◌∷◌, ◌++◌, length, take, drop, set, refl, ap, ◌∙◌, suc-add, arith, length-set}
use borrow.Rule.Slice.PartMut.{put_mid}
use Rattle.block.specs.Word.{word_at}
use Rattle.block.specs.Bytes.{bytes_of}
use Rattle.block.specs.Store.{stored}
use Rattle.block.specs.Block.{up_to}
use Rattle.block.proofs.Words.{four, whole, word_cons}

pub length_stored : (l : List ℕ) (i w : ℕ) → length (stored l i w) ≡ length l
unfolding stored
length_stored l i w = simp length-set

-- the first four bytes of a list
record Front (l : List ℕ) : Type 0 where
  a : ℕ
  b : ℕ
  c : ℕ
  d : ℕ
  rest : List ℕ
  is : l ≡ a ∷ b ∷ c ∷ d ∷ rest

front : (l : List ℕ) → 4 ≤ length l → Front l
front [] h = absurd (omega arith)
front (a ∷ []) h = absurd (omega arith)
front (a ∷ b ∷ []) h = absurd (omega arith)
front (a ∷ b ∷ c ∷ []) h = absurd (omega arith)
front (a ∷ b ∷ c ∷ d ∷ l) h = record { a = a; b = b; c = c; d = d; rest = l; is = refl }

-- four bytes written at once are the word stored
four_set : (k a b c d : ℕ) (l : List ℕ) → k + 4 ≤ length l
    → take k l ++ (a ∷ b ∷ c ∷ d ∷ drop 4 (drop k l)) ≡ set (set (set (set l k a) (k + 1) b) (k + 2) c) (k + 3) d
four_set zero a b c d l h = let f = front l (omega arith) in rw f.is
four_set (suc k) a b c d [] h = absurd (omega arith)
four_set (suc k) a b c d (x ∷ l) h = simp suc-add (ap (λ (r : List ℕ). x ∷ r) (four_set k a b c d l (omega arith)))

pub stored_at_once : (l x : List ℕ) (i w : ℕ) → 4 * i + 4 ≤ length l → x ≡ w % 256 ∷ w / 256 % 256 ∷ w / 65536 % 256 ∷ w / 16777216 % 256 ∷ []
    → put_mid (4 * i) (4 * i + 4 - 4 * i) l x ≡ stored l i w
unfolding stored
stored_at_once l x i w h e =
    let n : 4 * i + 4 - 4 * i ≡ 4 = omega arith in
    rw (n, e) (four_set (4 * i) _ _ _ _ l h)

stored_cons : (a b c d : ℕ) (l : List ℕ) (i w : ℕ) → stored (a ∷ b ∷ c ∷ d ∷ l) (suc i) w ≡ a ∷ b ∷ c ∷ d ∷ stored l i w
unfolding stored
stored_cons a b c d l i w = simp (four, suc-add)

pub word_stored : (i : ℕ) (l : List ℕ) (w : ℕ) → 4 * i + 4 ≤ length l → w < 4294967296 → word_at (stored l i w) i ≡ w
unfolding stored word_at
word_stored zero l w h b = let f = front l (omega arith) in rw f.is (whole w b)
word_stored (suc i) l w h b =
    let f = front l (omega arith) in
    let n : length l ≡ 4 + length f.rest = ap length f.is ∙ omega arith in
    rw (f.is, stored_cons, word_cons) (word_stored i f.rest w (omega arith) b)

pub word_other : (i j : ℕ) (l : List ℕ) (w : ℕ) → 4 * i + 4 ≤ length l → i ≢ j → word_at (stored l i w) j ≡ word_at l j
unfolding stored word_at
word_other zero zero l w h ne = absurd (ne refl)
word_other zero (suc j) l w h ne = let f = front l (omega arith) in rw f.is (simp word_cons)
word_other (suc i) zero l w h ne = let f = front l (omega arith) in rw (f.is, stored_cons)
word_other (suc i) (suc j) l w h ne =
    let f = front l (omega arith) in
    let n : length l ≡ 4 + length f.rest = ap length f.is ∙ omega arith in
    rw (f.is, stored_cons) (simp word_cons (word_other i j f.rest w (omega arith) (λ e. ne (ap suc e))))

-- where the first k words stand, the next is stored after them
pub next_stored : (k : ℕ) (l : List ℕ) (w : ℕ → ℕ) → 4 * k + 4 ≤ length l → take (4 * k) l ≡ bytes_of (up_to k w)
    → take (4 * suc k) (stored l k (w k)) ≡ bytes_of (up_to (suc k) w)
unfolding stored bytes_of up_to
next_stored zero l w h e = let f = front l (omega arith) in rw f.is
next_stored (suc k) l w h e =
    let f = front l (omega arith) in
    let n : length l ≡ 4 + length f.rest = ap length f.is ∙ omega arith in
    let g = rw (f.is, four k) at e in
    let ih = next_stored k f.rest (λ i. w (suc i)) (omega arith) (cc) in
    rw (f.is, stored_cons, four (suc k)) (cc)
