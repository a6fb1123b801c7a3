-- `put_entry` meets its contract: a bar, and the words up to the last that is not zero.
use mathlib.Core.Path.{◌≡◌, sym, ap, ◌∙◌}
use mathlib.Core.List.{List, ◌++◌}
use Prim.Native.Nat.{ℕ, ◌+◌}
use native.Mathlib.Omega.{arith}
use lib.ListN.{length, take}
use Rattle.report.specs.Each.{each}
use Rattle.report.specs.Entry.{trim}
use Rattle.report.specs.Text.{number, numbers, entry_text}
use Rattle.report.specs.Words.{bar}
use Rattle.report.proofs.Entry.{shown_zero, shown_front}
use Rattle.report.proofs.Appended.{pieces}
use Rattle.report.proofs.Writer.put_entry.Goals as goal

zero_text : (l : List ℕ) → length (trim l) ≡ 0 → bar ++ number 0 ≡ entry_text l
unfolding entry_text numbers each
zero_text l e = sym (ap (λ (k : List ℕ). bar ++ numbers k) (shown_zero l e))

some_text : (l : List ℕ) (e : ℕ) → length (trim l) ≡ e + 1 → bar ++ numbers (take (e + 1) l) ≡ entry_text l
unfolding entry_text
some_text l e h =
    let f = shown_front l (λ z. omega arith) ∙ ap (λ (k : ℕ). take k l) h in
    sym (ap (λ (k : List ℕ). bar ++ numbers k) f)

pub put-requires : goal.put-requires
unfolding entry_text
put-requires c = search pieces

pub put_number-requires : goal.put_number-requires
put_number-requires c =
    let h = rw (← zero_text _ c.in-None.ensures) at c.requires in
    search pieces

pub put_numbers-requires : goal.put_numbers-requires
put_numbers-requires c =
    let h = rw (← some_text _ _ c.in-Some.ensures.1) at c.requires in
    search pieces

pub returns-in-None : goal.returns-in-None
returns-in-None c = rw (← zero_text _ c.in-None.ensures) (search pieces)

pub returns-in-Some : goal.returns-in-Some
returns-in-Some c = rw (← some_text _ _ c.in-Some.ensures.1) (search pieces)
