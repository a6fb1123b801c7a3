-- C1 as a text: its words with their lines, and its job in full; and a text with a word that is no number. Computed by the checker.
use mathlib.Core.Path.{◌≡◌, refl}
use mathlib.Core.List.{List, [], ◌∷◌}
use Prim.Native.Nat.{ℕ}
use Rattle.field.specs.ModulusTest.{none_divides, is_modulus}
use Rattle.sizes.specs.Entry.{is_entry}
use Rattle.jobtext.specs.declared.Slip.{Slip}
use Rattle.tokens.specs.Tokens.{text_end, word, class_of, scan, tokens}
use Rattle.tokens.specs.Number.{numeral_from, numeral_of}
use Rattle.jobtext.specs.Job.{job, wrong, tested, one_number, many_numbers, at_end, is_count, is_below, from_series, from_type, from_order, from_count, job_of_text}

-- "# C1", "7 2 3", "0 2 # type", "6 0 0 1 1 2", each with its end of line
abbrev c1 : List ℕ
c1 =
    35 ∷ 32 ∷ 67 ∷ 49 ∷ 10 ∷ 55 ∷ 32 ∷ 50 ∷ 32 ∷ 51 ∷ 10 ∷ 48 ∷ 32 ∷ 50 ∷ 32 ∷ 35 ∷ 32 ∷ 116 ∷ 121 ∷ 112 ∷ 101 ∷ 10 ∷ 54 ∷ 32 ∷ 48 ∷ 32 ∷ 48 ∷ 32 ∷ 49 ∷ 32 ∷ 49 ∷ 32 ∷ 50 ∷ 10 ∷ []

pub c1_tokens :
    tokens c1 ≡ word 2 (55 ∷ []) (word 2 (50 ∷ []) (word 2 (51 ∷ []) (word 3 (48 ∷ []) (word 3 (50 ∷ [])
    (word 4 (54 ∷ []) (word 4 (48 ∷ []) (word 4 (48 ∷ []) (word 4 (49 ∷ []) (word 4 (49 ∷ []) (word 4 (50 ∷ []) (text_end 5)))))))))))
unfolding tokens scan class_of
c1_tokens = refl

pub c1_job : job_of_text c1 ≡ job 7 2 3 (0 ∷ 2 ∷ []) (6 ∷ 0 ∷ 0 ∷ 1 ∷ 1 ∷ 2 ∷ [])
unfolding job_of_text tokens scan class_of from_count from_order from_type from_series many_numbers one_number tested at_end is_modulus none_divides is_count is_entry is_below numeral_of numeral_from
c1_job = refl

-- "7 2", and "x" on line 2
pub no_number : job_of_text (55 ∷ 32 ∷ 50 ∷ 10 ∷ 120 ∷ []) ≡ wrong Slip.NotNumber 2
unfolding job_of_text tokens scan class_of from_count from_order from_type one_number tested is_modulus none_divides is_count is_entry is_below numeral_of numeral_from
no_number = refl
