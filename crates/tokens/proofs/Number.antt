-- A word read digit by digit: a number that is too large stays so, whatever follows.
use mathlib.Core.Path.{◌≡◌, refl, sym, ap, ◌∙◌}
use mathlib.Core.Logic.{inl, inr}
use mathlib.Core.List.{List, [], ◌∷◌}
use Prim.Native.Nat.{ℕ, ◌+◌, ◌*◌, ◌-◌, ◌^◌, ◌≤◌, ◌<◌}
use native.Mathlib.Decide.{dec_lt}
use native.Mathlib.Numerals.{add-one}
use native.Mathlib.Omega.{arith}
use lib.ListN.{length, get_or, drop, drop_of_length-le}
use lib.Seq.{drop-cons}
use borrow.Author.Tests.{lt-ltb, le-ltb}
use Rattle.std.specs.Prelude.{Result, Ok, Err, MatchResult}
use Rattle.std.specs.Result.{OkIff, IsErrAnd}
use Rattle.std.specs.Char.{IsNotAsciiDigit}
use Rattle.tokens.specs.declared.NumeralError.{NumeralError}
use Rattle.tokens.specs.Number.{numeral_from, numeral_of}

module _ (v b : ℕ) (t : List ℕ) where
  low : b < 48 → numeral_from v (b ∷ t) ≡ Err NumeralError.NotNumber
  unfolding numeral_from
  low h = rw (lt-ltb b 48 h, numeral_from)

  high : 57 < b → numeral_from v (b ∷ t) ≡ Err NumeralError.NotNumber
  unfolding numeral_from
  high h = rw (le-ltb b 48 (omega arith), lt-ltb 57 b h, numeral_from)

  digit : 48 ≤ b → b ≤ 57 → numeral_from v (b ∷ t) ≡ numeral_from (v * 10 + (b - 48)) t
  unfolding numeral_from
  digit h g = rw (le-ltb b 48 h, le-ltb 57 b g, numeral_from)

pub fits : (v : ℕ) → v < 2 ^ 32 → numeral_from v [] ≡ Ok v
unfolding numeral_from
fits v h = rw (lt-ltb v (2 ^ 32) h)

pub too_large : (v : ℕ) → 2 ^ 32 ≤ v → numeral_from v [] ≡ Err NumeralError.TooLarge
unfolding numeral_from
too_large v h = rw (le-ltb v (2 ^ 32) h)

large : (t : List ℕ) (v u : ℕ) → 2 ^ 32 ≤ v → 2 ^ 32 ≤ u → numeral_from v t ≡ numeral_from u t
large [] v u h g = too_large v h ∙ sym (too_large u g)
large (b ∷ t) v u h g = elim (dec_lt b 48) [
  | yes l ↦ low v b t l ∙ sym (low u b t l)
  | no l ↦ elim (dec_lt 57 b) [
    | yes m ↦ high v b t m ∙ sym (high u b t m)
    | no m ↦ digit v b t (omega arith) (omega arith) ∙ large t (v * 10 + (b - 48)) (u * 10 + (b - 48)) (omega arith) (omega arith) ∙ sym (digit u b t (omega arith) (omega arith))
  ]
]

-- at a place k of the word, with r the number after one digit more
module _ (w : List ℕ) (k : ℕ) (v : ℕ) (h : k < length w) where
  place : drop k w ≡ get_or w k 0 ∷ drop (k + 1) w
  place = rw (add-one k) (drop-cons w k 0 h)

  pub stop : IsNotAsciiDigit (get_or w k 0) → numeral_from v (drop k w) ≡ Err NumeralError.NotNumber
  stop (inl l) = ap (numeral_from v) place ∙ low v (get_or w k 0) (drop (k + 1) w) l
  stop (inr l) = ap (numeral_from v) place ∙ high v (get_or w k 0) (drop (k + 1) w) l

  pub digit_turn : (r : ℕ) → 48 ≤ get_or w k 0 → get_or w k 0 ≤ 57 → (v < 2 ^ 32 → r ≡ v * 10 + (get_or w k 0 - 48)) → (2 ^ 32 ≤ v → r ≡ v)
      → numeral_from v (drop k w) ≡ numeral_from r (drop (k + 1) w)
  digit_turn r a b small big =
      let d = digit v (get_or w k 0) (drop (k + 1) w) a b in
      elim (dec_lt v (2 ^ 32)) [
        | yes l ↦ ap (numeral_from v) place ∙ d ∙ ap (λ (x : ℕ). numeral_from x (drop (k + 1) w)) (sym (small l))
        | no l ↦ ap (numeral_from v) place ∙ d ∙ large (drop (k + 1) w) (v * 10 + (get_or w k 0 - 48)) r (omega arith) (omega (arith, big (omega arith)))
      ]

pub digit_bound : (v d r : ℕ) → d ≤ 9 → v < 2 ^ 36 → (v < 2 ^ 32 → r ≡ v * 10 + d) → (2 ^ 32 ≤ v → r ≡ v) → r < 2 ^ 36
digit_bound v d r h b small big = elim (dec_lt v (2 ^ 32)) [
  | yes l ↦ omega (arith, small l)
  | no l ↦ omega (arith, big (omega arith))
]

pub last : (w : List ℕ) (k v : ℕ) → length w ≤ k → numeral_from v (drop k w) ≡ numeral_from v []
last w k v h = ap (numeral_from v) (drop_of_length-le w h)

-- what `u32::try_from` and `map_err` make of the number
pub converted : {E : Type 0} (v : ℕ) (x : Result ℕ E) (r : Result ℕ NumeralError) (Q : E → NumeralError → Type 0) → OkIff x (v < 2 ^ 32) v → MatchResult x (λ y. r ≡ Ok y) (λ e. IsErrAnd r (Q e))
    → ((e : E) (n : NumeralError) → Q e n → n ≡ NumeralError.TooLarge) → r ≡ numeral_from v []
converted v (Ok y) r Q k h q = h ∙ ap Ok k.1 ∙ sym (fits v k.0)
converted v (Err e) (Err n) Q k h q = ap Err (q e n h) ∙ sym (too_large v (omega (arith, k)))
converted v (Err e) (Ok n) Q k h q = absurd h

-- a word has a byte
pub no_word : (w : List ℕ) → length w ≡ 0 → numeral_of w ≡ Err NumeralError.NotNumber
unfolding numeral_of
no_word [] h = refl
no_word (b ∷ t) h = absurd (omega arith)

pub some_word : (w : List ℕ) → (length w ≡ 0 → ⊥) → numeral_of w ≡ numeral_from 0 w
unfolding numeral_of
some_word [] h = absurd (h refl)
some_word (b ∷ t) h = refl
