-- A file of blocks: its length, its payload words, and that sound blocks numbered in turn are the file of their payload words.
use Rattle.std.proofs.Common.{◌≡◌, ℕ, zero, suc, ◌+◌, ◌-◌, ◌*◌, ◌/◌, ◌%◌, ◌<◌, ◌≤◌, List, [], ◌∷◌, ◌++◌, length, get_or, take, drop, sym, refl, ap, ◌∙◌, append_assoc, append-nil, le_of_eq, add-zero, add_comm, zero-add, mul-suc, add-one, arith, length-append, length-drop, take-append-drop, length-take-le, get_or-drop, take_all, drop-drop, take_at, drop_at}
use native.Mathlib.Decide.{dec_lt}
use lib.ListN.{get_or-eq_default}
use Rattle.block.specs.Word.{word_at}
use Rattle.block.specs.Bytes.{Bytes, Words}
use Rattle.block.specs.Block.{up_to, block_of}
use Rattle.block.specs.Read.{number_of, Sound}
use Rattle.block.specs.File.{blocks_of, blocks_for, file_of}
use Rattle.block.specs.Part.{block_at, payload_at}
use Rattle.words.specs.Lent.{over}
use Rattle.block.proofs.Table.{length_up_to, get_d_up_to}
use Rattle.block.proofs.Words.{word_take, word_drop}
use Rattle.words.proofs.Within.{within_take, within_drop}
use Rattle.block.proofs.Block.{words_payload, length_block, block_word, number_block, sound_block, block_is}

pub length_blocks : (b m : ℕ) (ws : List ℕ) → length (blocks_of b m ws) ≡ 512 * m
unfolding blocks_of
length_blocks b zero ws = refl
length_blocks b (suc m) ws =
    length-append (block_of b ws) _ ∙ omega (arith, length_block b ws, length_blocks (suc b) m (drop 125 ws))

-- just enough blocks: they hold n words, and no fewer do
pub blocks_enough : (n : ℕ) → n ≤ 125 * blocks_for n
unfolding blocks_for
blocks_enough n = omega arith

pub blocks_least : (n m : ℕ) → n ≤ 125 * m → blocks_for n ≤ m
unfolding blocks_for
blocks_least n m h = omega arith

-- the last of them is not empty, and they are no more than the words
pub blocks_close : (n : ℕ) → (125 * blocks_for n ≤ n + 125) × (blocks_for n ≤ n)
unfolding blocks_for
blocks_close n = (omega arith, omega arith)

pub length_file : (ws : List ℕ) → length (file_of ws) ≡ 512 * blocks_for (length ws)
unfolding file_of
length_file ws = length_blocks 0 (blocks_for (length ws)) ws

-- the blocks of words, written over the first of the lent bytes, are their file
pub file_over : (ws lent x : List ℕ) (m : ℕ) → m ≡ blocks_for (length ws) → x ≡ blocks_of 0 m ws → x ++ drop (512 * m) lent ≡ over (file_of ws) lent
unfolding file_of
file_over ws lent x m e h = rw (length_blocks 0 (blocks_for (length ws)) ws, ← e) (ap (λ (l : List ℕ). l ++ drop (512 * m) lent) h)

-- n parts of c further on, after one
drop_next : (c n : ℕ) (l : List ℕ) → drop (c * n) (drop c l) ≡ drop (c * suc n) l
drop_next c n l = drop-drop (c * n) c l ∙ ap (λ (k : ℕ). drop k l) (add_comm c (c * n) ∙ sym (mul-suc c n))

-- the next block after some
pub blocks_snoc : (b m : ℕ) (ws : List ℕ) → blocks_of b (suc m) ws ≡ blocks_of b m ws ++ block_of (b + m) (drop (125 * m) ws)
unfolding blocks_of
blocks_snoc b zero ws = simp (append-nil, add-zero)
blocks_snoc b (suc m) ws =
    let ih = blocks_snoc (suc b) m (drop 125 ws) in
    let e : suc b + m ≡ b + suc m = omega arith in
    simp append_assoc (ap (λ (r : List ℕ). block_of b ws ++ r) (rw (e, drop_next 125 m ws) at ih))

-- m blocks, and the next written after them with the words from its first on
pub blocks_written : (b m : ℕ) (ws l x r : List ℕ) → take (512 * m) l ≡ blocks_of b m ws
    → x ≡ block_of (b + m) (take (length ws - 125 * m) (drop (125 * m) ws))
    → take (512 * (m + 1)) (take (512 * m) l ++ (x ++ r)) ≡ blocks_of b (m + 1) ws
blocks_written b m ws l x r t e =
    let all = take_all (length ws - 125 * m) (drop (125 * m) ws) (le_of_eq (length-drop (125 * m) ws)) in
    let n : length (blocks_of b (suc m) ws) ≡ 512 * suc m = length_blocks b (suc m) ws in
    rw (t, e, all, ← append_assoc, add-one, ← blocks_snoc) (take_at (blocks_of b (suc m) ws) r (512 * suc m) n)

-- what stands after the first block
pub block_next : (l : List ℕ) (j : ℕ) → block_at (drop 512 l) j ≡ block_at l (suc j)
unfolding block_at
block_next l j = ap (take 512) (drop_next 512 j l)

-- a payload word's place among the words of the file
pub payload_place : (l : List ℕ) (k : ℕ) → payload_at l k ≡ word_at l (128 * (k / 125) + 1 + k % 125)
unfolding payload_at block_at
payload_place l k =
    let d : 512 * (k / 125) ≡ 4 * (128 * (k / 125)) = omega arith in
    let e : 128 * (k / 125) + suc (k % 125) ≡ 128 * (k / 125) + 1 + k % 125 = omega arith in
    word_take 128 (drop (512 * (k / 125)) l) (suc (k % 125)) (omega arith) ∙ rw (d, ← e) (word_drop (128 * (k / 125)) l (suc (k % 125)))

payload_next : (l : List ℕ) (k : ℕ) → payload_at (drop 512 l) k ≡ payload_at l (125 + k)
payload_next l k =
    let e : 128 + (128 * (k / 125) + 1 + k % 125) ≡ 128 * ((125 + k) / 125) + 1 + (125 + k) % 125 = omega arith in
    payload_place (drop 512 l) k ∙ word_drop 128 l _ ∙ rw e (sym (payload_place l (125 + k)))

payload_first : (l : List ℕ) (k : ℕ) → k < 125 → payload_at l k ≡ word_at l (suc k)
payload_first l k h = let e : 128 * (k / 125) + 1 + k % 125 ≡ suc k = omega arith in rw e at (payload_place l k)

after_first : (b : ℕ) (ws r : List ℕ) → drop 512 (block_of b ws ++ r) ≡ r
after_first b ws r = drop_at (block_of b ws) r 512 (length_block b ws)

pub payload_blocks : (b m : ℕ) (ws : List ℕ) → b + m ≤ 4294967296 → Words ws → (k : ℕ) → k < 125 * m
    → payload_at (blocks_of b m ws) k ≡ get_or ws k 0
unfolding blocks_of
payload_blocks b zero ws hb h k l = absurd (omega arith)
payload_blocks b (suc m) ws hb h k l = elim (dec_lt k 125) [
  | yes j ↦ payload_first _ k j ∙ block_word b ws (omega arith) h _ (suc k) (omega arith) ∙ words_payload b ws k j
  | no j ↦
      let e : 125 + (k - 125) ≡ k = omega arith in
      let next = rw (e, after_first) at (payload_next (block_of b ws ++ blocks_of (suc b) m (drop 125 ws)) (k - 125)) in
      sym next ∙ payload_blocks (suc b) m (drop 125 ws) (omega arith) (within_drop _ 125 ws h) (k - 125) (omega arith)
      ∙ get_or-drop 125 ws (k - 125) 0 ∙ ap (λ (x : ℕ). get_or ws x 0) e
]

-- the blocks of a file of blocks
pub block_blocks : (b m : ℕ) (ws : List ℕ) (j : ℕ) → j < m → block_at (blocks_of b m ws) j ≡ block_of (b + j) (drop (125 * j) ws)
unfolding blocks_of block_at
block_blocks b zero ws j h = absurd (omega arith)
block_blocks b (suc m) ws zero h = rw add-zero (take_at (block_of b ws) _ 512 (length_block b ws))
block_blocks b (suc m) ws (suc j) h =
    let e : suc b + j ≡ b + suc j = omega arith in
    sym (block_next (block_of b ws ++ blocks_of (suc b) m (drop 125 ws)) j)
    ∙ rw after_first (rw (e, drop_next 125 j ws) at (block_blocks (suc b) m (drop 125 ws) j (omega arith)))

-- each of them has its number and is sound
pub blocks_sound : (b m : ℕ) (ws : List ℕ) → b + m ≤ 4294967296 → Words ws → (j : ℕ) → j < m
    → (number_of (block_at (blocks_of b m ws) j) ≡ b + j) × Sound (block_at (blocks_of b m ws) j)
blocks_sound b m ws hb h j l =
    let w = within_drop _ (125 * j) ws h in
    rw (block_blocks b m ws j l) (number_block (b + j) (drop (125 * j) ws) (omega arith) w, sound_block (b + j) (drop (125 * j) ws) (omega arith) w)

-- sound blocks numbered in turn from b are those of their payload words
pub blocks_are : (b m : ℕ) (l ws : List ℕ) → Bytes l → length l ≡ 512 * m
    → ((j : ℕ) → j < m → (number_of (block_at l j) ≡ b + j) × Sound (block_at l j))
    → ((k : ℕ) → k < 125 * m → get_or ws k 0 ≡ payload_at l k)
    → l ≡ blocks_of b m ws
unfolding blocks_of block_at
blocks_are b zero [] ws h e s p = refl
blocks_are b zero (x ∷ l) ws h e s p = absurd (omega arith)
blocks_are b (suc m) l ws h e s p =
    let here = s 0 (omega arith) in
    let first =
    block_is (take 512 l) ws (within_take _ 512 l h) (length-take-le 512 l (omega arith)) here.1
    (λ i j. p i (omega arith) ∙ payload_first l i j ∙ sym (word_take 128 l (suc i) (omega arith))) in
    let rest =
    blocks_are (suc b) m (drop 512 l) (drop 125 ws) (within_drop _ 512 l h) (length-drop 512 l ∙ omega arith)
    (λ j i. let n : suc b + j ≡ b + suc j = omega arith in rw (block_next l j, n) (s (suc j) (omega arith)))
    (λ k i. get_or-drop 125 ws k 0 ∙ p (125 + k) (omega arith) ∙ sym (payload_next l k)) in
    sym (take-append-drop 512 l)
    ∙ ap (λ (x : List ℕ). x ++ drop 512 l) (first ∙ ap (λ (n : ℕ). block_of n ws) (here.0 ∙ add-zero b))
    ∙ ap (λ (x : List ℕ). block_of b ws ++ x) rest

-- the file of n words, read back: their number of blocks, sound and numbered from 0, and zero past them
pub file_is : (n : ℕ) (l : List ℕ) → Bytes l → length l ≡ 512 * blocks_for n
    → ((j : ℕ) → j < blocks_for n → (number_of (block_at l j) ≡ j) × Sound (block_at l j))
    → ((k : ℕ) → n ≤ k → k < 125 * blocks_for n → payload_at l k ≡ 0)
    → l ≡ file_of (up_to n (payload_at l))
unfolding file_of
file_is n l h e s z =
    rw (length_up_to n (payload_at l)) (blocks_are 0 (blocks_for n) l (up_to n (payload_at l)) h e (λ j i. rw zero-add (s j i)) (λ k i. elim (dec_lt k n) [
      | yes y ↦ get_d_up_to n (payload_at l) k y
      | no y ↦ get_or-eq_default (up_to n (payload_at l)) 0 (omega (arith, length_up_to n (payload_at l))) ∙ sym (z k (omega arith) i)
    ]))
