-- The calls' tests and outcomes: what is known where no test holds, and that two outcomes of one call are the same.
use mathlib.Core.Path.{◌≡◌, sym, ap, ◌∙◌}
use mathlib.Core.Logic.{inl, inr}
use mathlib.Core.List.{List}
use Prim.Native.Nat.{ℕ, ◌+◌, ◌*◌, ◌≤◌, ◌<◌}
use native.Mathlib.Decide.{dec_le}
use native.Mathlib.Omega.{arith}
use lib.ListN.{length}
use Rattle.field.specs.Refusal.{Order, NoTest}
use Rattle.field.proofs.Outcome.{same_outcome}
use Rattle.field.proofs.Truth.{same_of}
use Rattle.report.specs.Text.{basis_text, refusal_text}
use Rattle.std.specs.Prelude.{Result, Ok, Err}
use Rattle.field.specs.declared.Refusal.{Refusal}
use Rattle.field.proofs.Numbered.{same_number}
use Rattle.report.specs.Calls.{text_says, text_bytes, basis_text_order, refusal_text_order, TextOutcome, BasisTextOutcome, RefusalTextOutcome}

pub record Passed (n s types words bytes : ℕ) : Type 0 where
  pub some : 0 < n
  pub rows : n ≤ 8
  pub order : s ≤ 255
  pub typed : types ≡ n
  pub filled : words ≡ n * (n * (s + 1))
  pub room : bytes ≡ text_bytes

pub basis_passed : (n s types words bytes : ℕ) → NoTest (basis_text_order n s types words bytes) → Passed n s types words bytes
unfolding NoTest
basis_passed n s types words bytes h = record {
  some = elim (dec_le 1 n) [ yes y ↦ y | no y ↦ absurd (h.0 (inl (omega arith))) ];
  rows = elim (dec_le n 8) [ yes y ↦ y | no y ↦ absurd (h.0 (inr (omega arith))) ];
  order = elim (dec_le s 255) [ yes y ↦ y | no y ↦ absurd (h.1.0 (omega arith)) ];
  typed = same_of types n (λ e. h.1.1.0 (inl e));
  filled = same_of words (n * (n * (s + 1))) (λ e. h.1.1.0 (inr (inl e)));
  room = same_of bytes text_bytes (λ e. h.1.1.0 (inr (inr e)));
}

-- what the answers say tells them apart
text_told : (r r' : Result ℕ Refusal) → text_says r ≡ text_says r' → r ≡ r'
text_told (Ok k) (Ok k') e = cc
text_told (Ok k) (Err e') e = cc
text_told (Err f) (Ok k') e = cc
text_told (Err f) (Err f') e = ap Err (same_number f f' (cc))

-- answer and buffer are determined: for one text, and so for a basis and for a refusal
pub text_unique : (o : Order) (text before : List ℕ) (r r' : Result ℕ Refusal) (after after' : List ℕ)
    → TextOutcome o text before after (text_says r) → TextOutcome o text before after' (text_says r') → (r ≡ r') × (after ≡ after')
text_unique o text before r r' after after' a b = elim (same_outcome o _ _ _ _ a b) [
  | inl w ↦ (text_told r r' (w.0.0 ∙ sym w.1.0), w.0.1 ∙ sym w.1.1)
  | inr w ↦ (text_told r r' (w.1.0 ∙ sym w.2.0), w.1.1 ∙ sym w.2.1)
]

pub basis_text_unique : (p n s : ℕ) (d basis : List ℕ) (least : ℕ) (before : List ℕ) (r r' : Result ℕ Refusal) (after after' : List ℕ)
    → BasisTextOutcome p n s d basis least before after (text_says r) → BasisTextOutcome p n s d basis least before after' (text_says r')
    → (r ≡ r') × (after ≡ after')
unfolding BasisTextOutcome
basis_text_unique p n s d basis least before r r' after after' a b =
    text_unique (basis_text_order n s (length d) (length basis) (length before)) (basis_text p n s d basis least) before r r' after after' a b

pub refusal_text_unique : (k : ℕ) (before : List ℕ) (r r' : Result ℕ Refusal) (after after' : List ℕ)
    → RefusalTextOutcome k before after (text_says r) → RefusalTextOutcome k before after' (text_says r') → (r ≡ r') × (after ≡ after')
unfolding RefusalTextOutcome
refusal_text_unique k before r r' after after' a b =
    text_unique (refusal_text_order (length before)) (refusal_text k) before r r' after after' a b
