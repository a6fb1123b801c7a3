-- Job: the job of a text: p, n, s, the n type entries, then n * s coefficients, and nothing more; or the first thing that is wrong, with its line.
use Rattle.std.specs.Prelude.{Bool, true, false, cond, List, [], ◌∷◌, ℕ, zero, suc, ◌*◌, ltb, leb, Ok, Err}
use Rattle.field.specs.ModulusTest.{is_modulus}
use Rattle.sizes.specs.Entry.{is_entry}
use Rattle.tokens.specs.declared.NumeralError.{NumeralError}
use Rattle.jobtext.specs.declared.Slip.{Slip}
use Rattle.tokens.specs.Tokens.{Tokens, text_end, word, tokens}
use Rattle.tokens.specs.Number.{numeral_of}

pub data JobText : Type 0 where
  job : ℕ → ℕ → ℕ → List ℕ → List ℕ → JobText
  wrong : Slip → ℕ → JobText

-- what is wrong where a word is no number of 32 bits
abbrev pub slip_of : NumeralError → Slip
slip_of NumeralError.NotNumber = Slip.NotNumber
slip_of NumeralError.TooLarge = Slip.TooLarge

-- a number that passes the test, and go on with it; one that does not is the slip
unfoldable pub tested : (ℕ → Bool) → Slip → (ℕ → Tokens → JobText) → ℕ → ℕ → Tokens → JobText
tested ok slip go v l t = elim (ok v) [ true ↦ go v t | false ↦ wrong slip l ]

unfoldable pub one_number : (ℕ → Bool) → Slip → (ℕ → Tokens → JobText) → Tokens → JobText
one_number ok slip go (text_end l) = wrong Slip.EndsEarly l
one_number ok slip go (word l w t) = elim (numeral_of w) [
  | Ok v ↦ tested ok slip go v l t
  | Err e ↦ wrong (slip_of e) l
]

-- k numbers that pass the test
unfoldable pub many_numbers : (ℕ → Bool) → Slip → ℕ → (List ℕ → Tokens → JobText) → Tokens → JobText
many_numbers ok slip zero go t = go [] t
many_numbers ok slip (suc k) go t = one_number ok slip (λ v. many_numbers ok slip k (λ l. go (v ∷ l))) t

-- nothing more
unfoldable pub at_end : JobText → Tokens → JobText
at_end j (text_end l) = j
at_end j (word l w t) = wrong Slip.TooMany l

-- the tests: refusals 1, 2, 3, 5 and 6 of document 01
unfoldable pub is_count : ℕ → Bool
is_count n = cond (ltb n 1) false (leb n 8)

unfoldable pub is_below : ℕ → ℕ → Bool
is_below limit v = ltb v limit

-- the job from each kind of number on, after those that were read
unfoldable pub from_series : ℕ → ℕ → ℕ → List ℕ → Tokens → JobText
from_series p n s d t = many_numbers (is_below p) Slip.Coefficient (n * s) (λ f. at_end (job p n s d f)) t

unfoldable pub from_type : ℕ → ℕ → ℕ → Tokens → JobText
from_type p n s t = many_numbers is_entry Slip.Entry n (from_series p n s) t

unfoldable pub from_order : ℕ → ℕ → Tokens → JobText
from_order p n t = one_number (is_below 256) Slip.Order (from_type p n) t

unfoldable pub from_count : ℕ → Tokens → JobText
from_count p t = one_number is_count Slip.Count (from_order p) t

unfoldable pub job_of_text : List ℕ → JobText
job_of_text text = one_number is_modulus Slip.Modulus from_count (tokens text)
