-- Words to bytes and back: the words of bytes, the bytes of words, and that each determines the other.
use Rattle.std.proofs.Common.{◌≡◌, ℕ, zero, suc, ◌+◌, ◌*◌, ◌/◌, ◌%◌, ◌<◌, List, [], ◌∷◌, ◌++◌, length, get_or, take, drop, sym, refl, ap, ◌∙◌, add_assoc, mod-eq_of_lt, suc-add, mul-add, arith, get_or-drop, get_or-take, ext_get_or}
use native.Mathlib.Nat.{div-add-mod, div-div-eq-div-mul}
use Rattle.block.specs.Word.{word_at}
use Rattle.block.specs.Bytes.{bytes_of, Bytes, Words}
use Rattle.block.specs.Block.{up_to}
use Rattle.block.proofs.Table.{up_to_same}

-- four bytes further on
pub four : (i : ℕ) → 4 * suc i ≡ suc (suc (suc (suc (4 * i))))
four i = omega arith

pub word_cons : (a b c d : ℕ) (l : List ℕ) (i : ℕ) → word_at (a ∷ b ∷ c ∷ d ∷ l) (suc i) ≡ word_at l i
unfolding word_at
word_cons a b c d l i = simp (four, suc-add)

pub word_below : (l : List ℕ) → Bytes l → (i : ℕ) → word_at l i < 4294967296
unfolding word_at
word_below l h i = omega (arith, h (4 * i), h (4 * i + 1), h (4 * i + 2), h (4 * i + 3))

pub length_bytes : (ws : List ℕ) → length (bytes_of ws) ≡ 4 * length ws
unfolding bytes_of
length_bytes [] = refl
length_bytes (w ∷ ws) = let h = length_bytes ws in omega arith

pub bytes_append : (xs ys : List ℕ) → bytes_of (xs ++ ys) ≡ bytes_of xs ++ bytes_of ys
unfolding bytes_of
bytes_append [] ys = refl
bytes_append (x ∷ xs) ys = rw (bytes_append xs ys)

pub bytes_bytes : (ws : List ℕ) → Bytes (bytes_of ws)
unfolding bytes_of
bytes_bytes [] i = omega arith
bytes_bytes (w ∷ ws) zero = omega arith
bytes_bytes (w ∷ ws) (suc zero) = omega arith
bytes_bytes (w ∷ ws) (suc (suc zero)) = omega arith
bytes_bytes (w ∷ ws) (suc (suc (suc zero))) = omega arith
bytes_bytes (w ∷ ws) (suc (suc (suc (suc i)))) = bytes_bytes ws i

-- the four bytes of a word give it back
pub whole : (w : ℕ) → w < 4294967296 → w % 256 + 256 * (w / 256 % 256) + 65536 * (w / 65536 % 256) + 16777216 * (w / 16777216 % 256) ≡ w
whole w h =
    let top : w / 16777216 < 256 = omega arith in
    let e : w / 65536 ≡ w / 256 / 256 = sym (div-div-eq-div-mul w 256 256) in
    let f : w / 16777216 ≡ w / 65536 / 256 = sym (div-div-eq-div-mul w 65536 256) in
    omega (arith, mod-eq_of_lt top, div-add-mod w 256, div-add-mod (w / 256) 256, div-add-mod (w / 65536) 256)

-- the words of bytes that begin with those of ws
pub word_bytes : (ws rest : List ℕ) → Words ws → (i : ℕ) → i < length ws → word_at (bytes_of ws ++ rest) i ≡ get_or ws i 0
unfolding bytes_of word_at
word_bytes [] rest h i l = absurd (omega arith)
word_bytes (w ∷ ws) rest h zero l = whole w (h 0)
word_bytes (w ∷ ws) rest h (suc i) l = rw word_cons (word_bytes ws rest (λ j. h (suc j)) i (omega arith))

-- four bytes are those of their word
module _ (a b c d : ℕ) (ha : a < 256) (hb : b < 256) (hc : c < 256) (hd : d < 256) where
  low : (a + 256 * b + 65536 * c + 16777216 * d) % 256 ≡ a
  low = omega arith

  second : (a + 256 * b + 65536 * c + 16777216 * d) / 256 % 256 ≡ b
  second = omega arith

  third : (a + 256 * b + 65536 * c + 16777216 * d) / 65536 % 256 ≡ c
  third = omega arith

  high : (a + 256 * b + 65536 * c + 16777216 * d) / 16777216 % 256 ≡ d
  high = omega arith

-- bytes are those of their words
pub bytes_words : (n : ℕ) (l : List ℕ) → length l ≡ 4 * n → Bytes l → l ≡ bytes_of (up_to n (word_at l))
unfolding bytes_of up_to word_at
bytes_words zero [] e h = refl
bytes_words zero (a ∷ l) e h = absurd (omega arith)
bytes_words (suc n) [] e h = absurd (omega arith)
bytes_words (suc n) (a ∷ []) e h = absurd (omega arith)
bytes_words (suc n) (a ∷ b ∷ []) e h = absurd (omega arith)
bytes_words (suc n) (a ∷ b ∷ c ∷ []) e h = absurd (omega arith)
bytes_words (suc n) (a ∷ b ∷ c ∷ d ∷ l) e h =
    let ih : l ≡ bytes_of (up_to n (word_at l)) = bytes_words n l (omega arith) (λ i. h (suc (suc (suc (suc i))))) in
    simp word_cons (cc (ih, low a b c d (h 0) (h 1) (h 2) (h 3), second a b c d (h 0) (h 1) (h 2) (h 3), third a b c d (h 0) (h 1) (h 2) (h 3), high a b c d (h 0) (h 1) (h 2) (h 3)))

-- bytes of one length are determined by their words
pub bytes_by_words : (n : ℕ) (l m : List ℕ) → length l ≡ 4 * n → length m ≡ 4 * n → Bytes l → Bytes m
    → ((i : ℕ) → i < n → word_at l i ≡ word_at m i) → l ≡ m
bytes_by_words n l m el em hl hm w =
    bytes_words n l el hl ∙ ap bytes_of (up_to_same n (word_at l) (word_at m) w) ∙ sym (bytes_words n m em hm)

-- words are determined by their bytes
pub bytes_injective : (xs ys : List ℕ) → Words xs → Words ys → bytes_of xs ≡ bytes_of ys → xs ≡ ys
bytes_injective xs ys hx hy e =
    let n : length xs ≡ length ys = omega (arith, length_bytes xs, length_bytes ys, ap length e) in
    ext_get_or 0 xs ys n (λ i l. sym (word_bytes xs [] hx i l) ∙ ap (λ (b : List ℕ). word_at (b ++ []) i) e ∙ word_bytes ys [] hy i (omega arith))

-- lists of words
pub words_nil : Words []
words_nil i = omega arith

pub words_cons : (w : ℕ) (ws : List ℕ) → w < 4294967296 → Words ws → Words (w ∷ ws)
words_cons w ws h hs zero = h
words_cons w ws h hs (suc i) = hs i

pub words_append : (xs ys : List ℕ) → Words xs → Words ys → Words (xs ++ ys)
words_append [] ys hx hy i = hy i
words_append (x ∷ xs) ys hx hy zero = hx 0
words_append (x ∷ xs) ys hx hy (suc i) = words_append xs ys (λ j. hx (suc j)) hy i

pub words_up_to : (n : ℕ) (w : ℕ → ℕ) → ((i : ℕ) → w i < 4294967296) → Words (up_to n w)
unfolding up_to
words_up_to zero w h i = omega arith
words_up_to (suc n) w h zero = h 0
words_up_to (suc n) w h (suc i) = words_up_to n (λ j. w (suc j)) (λ j. h (suc j)) i

pub words_part : (n : ℕ) (ws : List ℕ) → Words ws → Words (up_to n (λ i. get_or ws i 0))
words_part n ws h = words_up_to n (λ i. get_or ws i 0) h

-- parts of bytes
pub word_take : (n : ℕ) (l : List ℕ) (i : ℕ) → i < n → word_at (take (4 * n) l) i ≡ word_at l i
unfolding word_at
word_take n l i h =
    let at : (j : ℕ) → j < 4 * n → get_or (take (4 * n) l) j 0 ≡ get_or l j 0 = λ j. get_or-take (4 * n) l j 0 in
    cc (at (4 * i) (omega arith), at (4 * i + 1) (omega arith), at (4 * i + 2) (omega arith), at (4 * i + 3) (omega arith))

pub word_drop : (n : ℕ) (l : List ℕ) (i : ℕ) → word_at (drop (4 * n) l) i ≡ word_at l (n + i)
unfolding word_at
word_drop n l i = simp (get_or-drop, mul-add, add_assoc)
