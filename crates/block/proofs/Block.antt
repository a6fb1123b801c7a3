-- A block is determined by its number and payload: what block_of writes reads back as them and is sound, and a sound block is what block_of
-- writes of its number and payload.
use Rattle.std.proofs.Common.{◌≡◌, ℕ, zero, suc, ◌+◌, ◌*◌, ◌<◌, List, [], ◌∷◌, ◌++◌, length, get_or, take, drop, sym, refl, ap, ◌∙◌, append-nil, add-one, arith, length-append, take-append-drop, take_all, get_or-append-add}
use native.Mathlib.Decide.{dec_lt, ℕ_discrete}
use lib.ListN.{get_or-append}
use Rattle.block.specs.Word.{word_at}
use Rattle.block.specs.Bytes.{bytes_of, Bytes, Words}
use Rattle.block.specs.Store.{stored}
use Rattle.block.specs.Checks.{summed, checks_of}
use Rattle.block.specs.Block.{up_to, body, with_checks, block_of}
use Rattle.block.specs.Read.{number_of, Sound, payload_of}
use Rattle.block.proofs.Sums.{checks_same, summed_below}
use Rattle.block.proofs.Table.{length_up_to, get_d_up_to, up_to_same, up_to_get_d}
use Rattle.block.proofs.Words.{length_bytes, word_bytes, bytes_words, words_nil, words_cons, words_append, words_up_to, words_part}
use Rattle.block.proofs.Store.{length_stored, next_stored}

pub length_body : (n : ℕ) (ps : List ℕ) → length (body n ps) ≡ 126
unfolding body
length_body n ps = ap suc (length_up_to 125 (λ i. get_or ps i 0))

pub length_checked : (ws : List ℕ) → length (with_checks ws) ≡ length ws + 2
unfolding with_checks
length_checked ws = length-append ws _

pub length_block : (n : ℕ) (ps : List ℕ) → length (block_of n ps) ≡ 512
unfolding block_of
length_block n ps = omega (arith, length_bytes (with_checks (body n ps)), length_checked (body n ps), length_body n ps)

-- the words of a block, with its checks
pub words : ℕ → List ℕ → ℕ → ℕ
words n ps i = get_or (with_checks (body n ps)) i 0

module _ (n : ℕ) (ps : List ℕ) where
  words_body : (i : ℕ) → i < 126 → words n ps i ≡ get_or (body n ps) i 0
  unfolding words with_checks
  words_body i h = get_or-append (body n ps) _ 0 i (omega (arith, length_body n ps))

  pub words_number : words n ps 0 ≡ n
  unfolding body
  words_number = words_body 0 (omega arith)

  pub words_payload : (i : ℕ) → i < 125 → words n ps (suc i) ≡ get_or ps i 0
  unfolding body
  words_payload i h = words_body (suc i) (omega arith) ∙ get_d_up_to 125 (λ j. get_or ps j 0) i h

  -- the words after the first 126 are the checks
  words_check : (j : ℕ) → words n ps (126 + j) ≡ get_or ((checks_of (words n ps)).a ∷ (checks_of (words n ps)).b ∷ []) j 0
  unfolding words with_checks
  words_check j =
      let e = checks_same (λ i. get_or (body n ps) i 0) (words n ps) (λ i h. sym (words_body i h)) in
      rw (← e, ← length_body n ps) (get_or-append-add (body n ps) _ j 0)

  pub words_a : words n ps 126 ≡ (checks_of (words n ps)).a
  words_a = words_check 0

  pub words_b : words n ps 127 ≡ (checks_of (words n ps)).b
  words_b = words_check 1

  pub words_list : with_checks (body n ps) ≡ up_to 128 (words n ps)
  unfolding words
  words_list =
      let e : length (with_checks (body n ps)) ≡ 128 = omega (arith, length_checked (body n ps), length_body n ps) in
      sym (rw e at (up_to_get_d (with_checks (body n ps))))

-- two tables of words agree before the checks if their numbers and payloads do
by_place : (f g : ℕ → ℕ) → f 0 ≡ g 0 → ((i : ℕ) → i < 125 → f (suc i) ≡ g (suc i)) → (i : ℕ) → i < 126 → f i ≡ g i
by_place f g z p zero h = z
by_place f g z p (suc i) h = p i (omega arith)

-- and everywhere if they do there and at the checks
by_checks : (f g : ℕ → ℕ) → ((i : ℕ) → i < 126 → f i ≡ g i) → f 126 ≡ g 126 → f 127 ≡ g 127 → (i : ℕ) → i < 128 → f i ≡ g i
by_checks f g p a b i h = elim (dec_lt i 126) [
  | yes l ↦ p i l
  | no l ↦ elim (ℕ_discrete i 126) [
    | yes e ↦ rw e a
    | no ne ↦ let e : i ≡ 127 = omega arith in rw e b
  ]
]

-- the number stored first, and each payload word after those before it
pub begun : (n : ℕ) (ps l : List ℕ) → length l ≡ 512 → take 4 (stored l 0 n) ≡ bytes_of (up_to 1 (words n ps))
unfolding bytes_of up_to
begun n ps l e =
    ap (λ (x : ℕ). take 4 (stored l 0 x)) (sym (words_number n ps)) ∙ next_stored 0 l (words n ps) (omega arith) refl

pub filled : (n : ℕ) (ps l : List ℕ) (i x : ℕ) → i < 125 → length l ≡ 512 → x ≡ get_or ps i 0
    → take (4 * (i + 1)) l ≡ bytes_of (up_to (i + 1) (words n ps))
    → take (4 * (i + 1 + 1)) (stored l (i + 1) x) ≡ bytes_of (up_to (i + 1 + 1) (words n ps))
filled n ps l i x h e p t =
    rw (p, ← words_payload n ps i h, add-one (i + 1), add-one i) (next_stored (suc i) l (words n ps) (omega arith) (rw add-one at t))

module _ (n : ℕ) (ps : List ℕ) (hn : n < 4294967296) (hp : Words ps) where
  pub words_below : Words (with_checks (body n ps))
  unfolding with_checks body checks_of
  words_below =
      let w : ℕ → ℕ = λ i. get_or (body n ps) i 0 in
      let below = summed_below w 126 in
      let checks = summed w 126 in
      words_append (body n ps) (checks.a ∷ checks.b ∷ []) (words_cons n (up_to 125 (λ i. get_or ps i 0)) hn (words_part 125 ps hp))
      (words_cons checks.a (checks.b ∷ []) below.0 (words_cons checks.b [] below.1 words_nil))

  word_below : (i : ℕ) → words n ps i < 4294967296
  unfolding words
  word_below i = words_below i

  -- the words of bytes that begin with the block
  pub block_word : (rest : List ℕ) (i : ℕ) → i < 128 → word_at (block_of n ps ++ rest) i ≡ words n ps i
  unfolding block_of words
  block_word rest i h =
      word_bytes (with_checks (body n ps)) rest words_below i (omega (arith, length_checked (body n ps), length_body n ps))

  block_word' : (i : ℕ) → i < 128 → word_at (block_of n ps) i ≡ words n ps i
  block_word' i h = rw append-nil at (block_word [] i h)

  pub number_block : number_of (block_of n ps) ≡ n
  number_block = block_word' 0 (omega arith) ∙ words_number n ps

  pub payload_block : payload_of (block_of n ps) ≡ up_to 125 (λ i. get_or ps i 0)
  unfolding payload_of
  payload_block = up_to_same 125 _ _ (λ i h. block_word' (suc i) (omega arith) ∙ words_payload n ps i h)

  pub sound_block : Sound (block_of n ps)
  sound_block =
      let e = checks_same (word_at (block_of n ps)) (words n ps) (λ i h. block_word' i (omega arith)) in
      record {
        a_right = block_word' 126 (omega arith) ∙ words_a n ps ∙ rw e refl;
        b_right = block_word' 127 (omega arith) ∙ words_b n ps ∙ rw e refl;
      }

  -- bytes that begin with the words of the block, with their checks made right
  pub sealed_block : (l : List ℕ) → length l ≡ 512 → take (4 * 126) l ≡ bytes_of (up_to 126 (words n ps))
      → stored (stored l 126 (checks_of (word_at l)).a) 127 (checks_of (word_at l)).b ≡ block_of n ps
  unfolding block_of
  sealed_block l e t =
      let w = words n ps in
      let at : (i : ℕ) → i < 126 → word_at l i ≡ w i =
      λ i h. ap (λ (x : List ℕ). word_at x i) (sym (take-append-drop 504 l) ∙ ap (λ (x : List ℕ). x ++ drop 504 l) t)
      ∙ word_bytes (up_to 126 w) (drop 504 l) (words_up_to 126 w word_below) i (omega (arith, length_up_to 126 w)) ∙ get_d_up_to 126 w i h in
      let c = checks_same (word_at l) w at in
      let l' = stored l 126 (w 126) in
      let one = next_stored 126 l w (omega arith) t in
      let two = next_stored 127 l' w (omega (arith, length_stored l 126 (w 126))) one in
      let same : take 512 (stored l' 127 (w 127)) ≡ stored l' 127 (w 127) =
      take_all 512 _ (omega (arith, length_stored l' 127 (w 127), length_stored l 126 (w 126))) in
      rw (c, ← words_a n ps, ← words_b n ps, words_list n ps) (sym same ∙ two)

-- a block determines its number and its payload
pub block_injective : (n m : ℕ) (ps qs : List ℕ) → n < 4294967296 → m < 4294967296 → Words ps → Words qs → length ps ≡ 125 → length qs ≡ 125
    → block_of n ps ≡ block_of m qs → (n ≡ m) × (ps ≡ qs)
block_injective n m ps qs hn hm hp hq lp lq e =
    let back : (k : ℕ) (rs : List ℕ) → k < 4294967296 → Words rs → length rs ≡ 125 → payload_of (block_of k rs) ≡ rs =
    λ k rs hk hr l. payload_block k rs hk hr ∙ (rw l at (up_to_get_d rs)) in (
      sym (number_block n ps hn hp) ∙ ap number_of e ∙ number_block m qs hm hq,
      sym (back n ps hn hp lp) ∙ ap payload_of e ∙ back m qs hm hq lq,
    )

-- a sound block is the block of its number and payload
pub block_is : (l ps : List ℕ) → Bytes l → length l ≡ 512 → Sound l → ((i : ℕ) → i < 125 → get_or ps i 0 ≡ word_at l (suc i))
    → l ≡ block_of (number_of l) ps
unfolding block_of
block_is l ps h e s p =
    let w = words (number_of l) ps in
    let q : (i : ℕ) → i < 126 → word_at l i ≡ w i =
    by_place (word_at l) w (sym (words_number (number_of l) ps)) (λ i j. sym (words_payload (number_of l) ps i j ∙ p i j)) in
    let c = checks_same (word_at l) w q in
    let all = by_checks (word_at l) w q (s.a_right ∙ rw c (sym (words_a (number_of l) ps))) (s.b_right ∙ rw c (sym (words_b (number_of l) ps))) in
    bytes_words 128 l e h ∙ ap bytes_of (up_to_same 128 (word_at l) w all ∙ sym (words_list (number_of l) ps))
