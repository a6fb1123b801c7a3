-- From the outcome of printing to the text in its buffer: the text that was written stands in front, and a buffer of the stated length is not refused.
use mathlib.Core.Path.{◌≡◌, refl, sym}
use mathlib.Core.Logic.{inl, inr}
use mathlib.Core.List.{List}
use Prim.Native.Nat.{ℕ}
use native.Mathlib.Omega.{arith}
use lib.ListN.{length, drop, length-append}
use lib.Seq.{take_at}
use Rattle.std.specs.Prelude.{Result, Ok, Err, IsOk}
use Rattle.field.specs.Refusal.{First, Outcome}
use Rattle.field.specs.declared.Refusal.{Refusal}
use Rattle.report.specs.Calls.{text_bytes, text_says}
use Rattle.jobreport.specs.Printed.{PrintOutcome}
use Rattle.console.specs.PrintedIn.{PrintedIn}

module _ (file before after : List ℕ) where
  pub printed_where_ok : (k : ℕ) → PrintOutcome file before after (text_says (Ok k)) → PrintedIn file after k
  unfolding PrintOutcome Outcome
  printed_where_ok k (text, printed, inl (none, (says, bytes))) =
      let counted : k ≡ length text = cc in
      record { inside = rw bytes (omega (arith, length-append text (drop (length text) before))); text = rw (bytes, take_at text _ k (sym counted)) printed }
  printed_where_ok k (text, printed, inr (j, first, (says, kept))) = absurd (let z : ◌≡◌ {A = ℕ} 0 1 = cc in omega arith)

  pub not_refused : (r : Result ℕ Refusal) → length before ≡ text_bytes → PrintOutcome file before after (text_says r) → IsOk r
  unfolding PrintOutcome Outcome First
  not_refused (Ok k) full outcome = refl
  not_refused (Err e) full (text, printed, inl (none, (says, bytes))) = absurd (let z : ◌≡◌ {A = ℕ} 0 1 = cc in omega arith)
  not_refused (Err e) full (text, printed, inr (j, inl (other, number), (says, kept))) = absurd (other full)
  not_refused (Err e) full (text, printed, inr (j, inr (none, never), (says, kept))) = absurd never
