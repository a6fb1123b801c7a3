-- Every text fits: 10 digits for a word, so 11 bytes for a number with its space, at most 8 rows of 8 entries of 256 words.
use mathlib.Core.Path.{◌≡◌, refl, ap, ◌∙◌}
use mathlib.Core.List.{List, [], ◌∷◌, ◌++◌}
use Prim.Native.Nat.{ℕ, zero, suc, ◌+◌, ◌*◌, ◌-◌, ◌/◌, ◌^◌, ◌≤◌, ◌<◌}
use native.Mathlib.Nat.{pow-suc, mul-le-mul_right, suc-mul, le_trans}
use native.Mathlib.Decide.{dec_lt, ℕ_discrete}
use native.Mathlib.Omega.{arith}
use lib.IntN.{ℤ}
use lib.ListN.{length, get_or, length-append}
use lib.ListN.{length-take}
use Rattle.io.specs.Digits.{last_digits}
use Rattle.report.specs.Each.{each}
use Rattle.report.specs.Decimal.{places_within, places, decimal, signed}
use Rattle.report.specs.Entry.{trim, shown, degree}
use Rattle.words.specs.Part.{part}
use Rattle.words.proofs.Part.{part_fits, part_length}
use Rattle.report.specs.Text.{number, numbers, type_numbers, sizes, heading, entry_text, entries_text, shifted_degree, degrees, pivot_line, row_line, row_lines, numbered, basis_text, refusal_text}
use Rattle.report.specs.Words.{relations_word, type_word, row_word, space, least_word, refused_word, line}
use Rattle.report.specs.Calls.{text_bytes}
use Rattle.words.specs.Within.{Within}
use Rattle.words.proofs.Within.{within_take, within_part}
use Rattle.report.proofs.Decimal.{few, many, signed_high, signed_low}
use Rattle.report.proofs.Entry.{shown_zero, shown_front, trim_short}

abbrev pub Words : List ℕ → Type 0
Words = Within (2 ^ 32)

words_zero : Words (0 ∷ [])
words_zero zero = omega arith
words_zero (suc k) = omega arith

words_shown : (l : List ℕ) → Words l → Words (shown l)
words_shown l h = elim (ℕ_discrete (length (trim l)) 0) [
  | yes e ↦ rw (shown_zero l e) words_zero
  | no e ↦ rw (shown_front l e) (within_take _ (length (trim l)) l h)
]

shown_length : (l : List ℕ) → 0 < length l → length (shown l) ≤ length l
shown_length l h = elim (ℕ_discrete (length (trim l)) 0) [
  | yes e ↦ rw (shown_zero l e) h
  | no e ↦ rw (shown_front l e) (omega (arith, length-take (length (trim l)) l))
]

digits_length : (k n : ℕ) → length (last_digits 10 k n) ≡ k
digits_length zero n = refl
digits_length (suc k) n = length-append (last_digits 10 k (n / 10)) _ ∙ (omega (arith, digits_length k (n / 10)))

places_few : (k f n : ℕ) → n < 10 ^ suc k → places_within f n ≤ suc k
unfolding places_within
places_few k zero n h = omega arith
places_few zero (suc f) n h = omega (arith, few n (suc f) h)
places_few (suc k) (suc f) n h = elim (dec_lt n 10) [
  | yes y ↦ omega (arith, few n (suc f) y)
  | no y ↦ omega (arith, many n f (omega arith), places_few k f (n / 10) (omega (arith, pow-suc 10 (suc k))))
]

pub decimal_most : (k n : ℕ) → n < 10 ^ suc k → length (decimal n) ≤ suc k
unfolding decimal places
decimal_most k n h = omega (arith, digits_length (places n) n, places_few k n n h)

pub number_most : (k n : ℕ) → n < 10 ^ suc k → length (number n) ≤ suc (suc k)
unfolding number
number_most k n h = omega (arith, decimal_most k n h)

decimal_length : (n : ℕ) → n < 2 ^ 32 → length (decimal n) ≤ 10
decimal_length n h = decimal_most 9 n (omega arith)

number_length : (n : ℕ) → n < 2 ^ 32 → length (number n) ≤ 11
number_length n h = number_most 9 n (omega arith)

signed_length : (e d : ℕ) → e < 2 ^ 32 → d < 2 ^ 32 → length (signed (shifted_degree e d)) ≤ 11
signed_length e d h g = elim (dec_lt e d) [
  | yes l ↦ omega (arith, ap length (signed_low e d l), decimal_length (d - e) (omega arith))
  | no l ↦ omega (arith, ap length (signed_high e d (omega arith)), decimal_length (e - d) (omega arith))
]

each_length : (f : ℕ → List ℕ) (most n : ℕ) → ((k : ℕ) → k < n → length (f k) ≤ most) → length (each f n) ≤ n * most
unfolding each
each_length f most zero h = omega arith
each_length f most (suc n) h =
    omega (arith, length-append (each f n) (f n), each_length f most n (λ k l. h k (omega arith)), h n (omega arith), suc-mul n most)

-- n texts, where n is at most m
each_most : (f : ℕ → List ℕ) (most m n : ℕ) → n ≤ m → ((k : ℕ) → k < n → length (f k) ≤ most) → length (each f n) ≤ m * most
each_most f most m n l h = omega (arith, each_length f most n h, mul-le-mul_right {m = n} {n = m} most l)

numbers_length : (l : List ℕ) (m : ℕ) → length l ≤ m → Words l → length (numbers l) ≤ m * 11
unfolding numbers
numbers_length l m h g = each_most (λ k. number (get_or l k 0)) 11 m (length l) h (λ k _. number_length (get_or l k 0) (g k))

entry_length : (l : List ℕ) → 0 < length l → length l ≤ 256 → Words l → length (entry_text l) ≤ 2818
unfolding entry_text
entry_length l h g w = omega (arith, numbers_length (shown l) 256 (omega (arith, shown_length l h)) (words_shown l w))

-- a text has at most so many bytes
record Most (text : List ℕ) (most : ℕ) : Type 0 where
  fits : length text ≤ most

most : (text : List ℕ) → Most text (length text)
most text = record { fits = omega arith }

both : {a b : List ℕ} {x y : ℕ} → Most a x → Most b y → Most (a ++ b) (x + y)
both {a} {b} h g = record { fits = omega (arith, length-append a b, h.fits, g.fits) }

a_number : (n : ℕ) → n < 2 ^ 32 → Most (number n) 11
a_number n h = record { fits = number_length n h }

module _ (n w : ℕ) (few : n ≤ 8) (short : w ≤ 256) (wide : 0 < w) where
  entries_length : (l : List ℕ) → length l ≡ n * w → Words l → length (entries_text n w l) ≤ 22544
  unfolding entries_text
  entries_length l h g = each_most (λ k. entry_text (part w k l)) 2818 8 n few λ k b.
      let e : length (part w k l) ≡ w = part_length w k l (omega (arith, part_fits n w k b)) in
      entry_length (part w k l) (omega arith) (omega arith) (within_part _ w k l g)

  line_length : (e : ℕ) (δ : ℤ) (i : ℕ) (l : List ℕ) → e < 2 ^ 32 → length (signed δ) ≤ 11 → i < n → length l ≡ n * w → Words l
      → length (pivot_line n w e δ i l) ≤ 22582
  unfolding pivot_line degrees
  line_length e δ i l he hδ hi h g =
      let counted = both (both (most row_word) (a_number (i + 1) (omega arith))) (a_number e he) in
      let front = both (both counted (most space)) (record { fits = hδ }) in
      (both (both front (record { fits = entries_length l h g })) (most line)).fits

  degree_small : (l : List ℕ) → length l ≤ 256 → degree l < 2 ^ 32
  unfolding degree
  degree_small l h = omega (arith, trim_short l)

  rows_length : (d basis : List ℕ) → length basis ≡ n * (n * w) → Words d → Words basis → length (row_lines n w d basis) ≤ 180656
  unfolding row_lines row_line
  rows_length d basis h hd hb = each_most (λ i. row_line n w (get_or d i 0) i (part (n * w) i basis)) 22582 8 n few λ i b.
      let l = part (n * w) i basis in
      let e : length l ≡ n * w = part_length (n * w) i basis (omega (arith, part_fits n (n * w) i b)) in
      let f : length (part w i l) ≡ w = part_length w i l (omega (arith, part_fits n w i b)) in
      let small = degree_small (part w i l) (omega arith) in
      line_length _ _ i l small (signed_length _ (get_or d i 0) small (hd i)) b e (within_part _ (n * w) i basis hb)

heading_length : (p n s : ℕ) (d : List ℕ) → p < 2 ^ 32 → n < 2 ^ 32 → s < 2 ^ 32 → length d ≤ 8 → Words d → length (heading p n s d) ≤ 136
unfolding heading sizes type_numbers numbers number signed
heading_length p n s d hp hn hs h g =
    let front = both (both (both (most relations_word) (a_number p hp)) (a_number n hn)) (a_number s hs) in
    (both (both (both front (most type_word)) (record { fits = numbers_length d 8 h g })) (most line)).fits

least_length : (i : ℕ) → i < 2 ^ 32 → length (numbered least_word i) ≤ 17
unfolding numbered
least_length i h = (both (both (most least_word) (a_number i h)) (most line)).fits

pub basis_fits : (p n s : ℕ) (d basis : List ℕ) (i : ℕ) → p < 2 ^ 32 → n ≤ 8 → s ≤ 255 → i < 2 ^ 32 → length d ≡ n → length basis ≡ n * (n * (s + 1)) → Words d → Words basis
    → length (basis_text p n s d basis i) ≤ text_bytes
unfolding basis_text
basis_fits p n s d basis i hp hn hs hi ed eb wd wb =
    let front : Most (heading p n s d) 136 = record { fits = heading_length p n s d hp (omega arith) (omega arith) (omega arith) wd } in
    let rows : Most (row_lines n (s + 1) d basis) 180656 = record { fits = rows_length n (s + 1) hn (omega arith) (omega arith) d basis eb wd wb } in
    let end : Most (numbered least_word i) 17 = record { fits = least_length i hi } in
    (both (both front rows) end).fits

pub refusal_fits : (k : ℕ) → k < 2 ^ 32 → length (refusal_text k) ≤ text_bytes
unfolding refusal_text numbered
refusal_fits k h = le_trans (both (both (most refused_word) (a_number k h)) (most line)).fits (omega arith)
