-- The length of a text is at most that of the lent buffer, and so it fits an answer word.
use mathlib.Core.Path.{◌≡◌, ap}
use mathlib.Core.Logic.{inl, inr}
use mathlib.Core.List.{List}
use Prim.Native.Nat.{ℕ}
use native.Mathlib.Omega.{arith}
use lib.ListN.{length, drop, length-append}
use Rattle.std.specs.Prelude.{Result, Ok, Err, IfOk, ◌≤◌, ◌<◌, ◌^◌}
use Rattle.field.specs.declared.Refusal.{Refusal}
use Rattle.field.specs.Refusal.{Order, NoTest, Outcome}
use Rattle.field.proofs.Truth.{same_of}
use Rattle.report.specs.Calls.{text_says, text_bytes, basis_text_order, refusal_text_order, TextOutcome, BasisTextOutcome, RefusalTextOutcome}
use Rattle.report.specs.Text.{basis_text, refusal_text}
use Rattle.jobreport.specs.Printed.{PrintOutcome}

-- the outcome of either call
module _ (o : Order) (text before after : List ℕ) (bytes : NoTest o → length before ≡ text_bytes) (same : length after ≡ length before) where
  text_fits : (r : Result ℕ Refusal) → TextOutcome o text before after (text_says r) → IfOk r (λ n. n ≤ text_bytes)
  unfolding Outcome
  text_fits (Err k) h = tt
  text_fits (Ok n) (inl a) =
      let e : n ≡ length text = cc in
      omega (arith, e, bytes a.0, same, ap length a.1.1, length-append text (drop (length text) before))
  text_fits (Ok n) (inr b) = absurd (let z : ◌≡◌ {A = ℕ} 0 1 = cc in omega arith)

pub basis_text_fits : (p n s : ℕ) (d basis : List ℕ) (least : ℕ) (before after : List ℕ) (r : Result ℕ Refusal) → length after ≡ length before
    → BasisTextOutcome p n s d basis least before after (text_says r) → IfOk r (λ n. n ≤ text_bytes)
unfolding BasisTextOutcome NoTest
basis_text_fits p n s d basis least before after r same h =
    text_fits (basis_text_order n s (length d) (length basis) (length before)) (basis_text p n s d basis least) before after (λ t. same_of _ _ (λ e. t.1.1.0 (inr (inr e)))) same r h

pub refusal_text_fits : (k : ℕ) (before after : List ℕ) (r : Result ℕ Refusal) → length after ≡ length before → RefusalTextOutcome k before after (text_says r) → IfOk r (λ n. n ≤ text_bytes)
unfolding RefusalTextOutcome NoTest
refusal_text_fits k before after r same h = text_fits (refusal_text_order (length before)) (refusal_text k) before after (λ t. same_of _ _ t.0) same r h

pub print_text_fits : (file before after : List ℕ) (r : Result ℕ Refusal) → length after ≡ length before → PrintOutcome file before after (text_says r) → IfOk r (λ n. n ≤ text_bytes)
unfolding PrintOutcome NoTest
print_text_fits file before after r same h = text_fits (refusal_text_order (length before)) h.0 before after (λ t. same_of _ _ t.0) same r h.2

pub fits_word : (r : Result ℕ Refusal) → IfOk r (λ n. n ≤ text_bytes) → IfOk r (λ n. n < 2 ^ 32)
fits_word (Err k) h = tt
fits_word (Ok n) h = omega (arith, h)
