-- `put_row` meets its contract: the line at the degree of the row's own entry.
use mathlib.Core.Path.{◌≡◌, ap, ◌∙◌}
use mathlib.Core.List.{List, ◌++◌}
use Prim.Native.Nat.{ℕ, ◌/◌, ◌≤◌}
use native.Mathlib.Omega.{arith}
use lib.IntN.{ℤ, pos, ◌-ℤ◌}
use lib.ListN.{length}
use Rattle.sizes.specs.Entry.{entry_of}
use Rattle.report.specs.Entry.{degree}
use Rattle.words.specs.Part.{part}
use Rattle.words.proofs.Part.{part_length}
use Rattle.report.specs.Text.{entries_text, shifted_degree, degrees, pivot_line, row_line}
use Rattle.report.specs.Words.{line}
use Rattle.report.proofs.Entry.{trim_short}
use Rattle.report.proofs.Appended.{pieces}
use Rattle.report.proofs.Writer.put_row.Goals as goal
use Rattle.report.proofs.Writer.put_row.Goals.{After-of}

at_degrees : (n w d i : ℕ) (l : List ℕ) (e : ℕ) (δ : ℤ) → e ≡ degree (part w i l) → δ ≡ pos e -ℤ entry_of d
    → row_line n w d i l ≡ degrees e δ i ++ entries_text n w l ++ line
unfolding row_line shifted_degree pivot_line
at_degrees n w d i l e δ h g = rw (g, h)

degree_short : (l : List ℕ) → degree l ≤ length l
unfolding degree
degree_short l = omega (arith, trim_short l)

pub of-requires : goal.of-requires
of-requires c =
    let a = c.args in
    let e = c.degree_of-pivot.ensures ∙ ap degree c.part_at.ensures in
    let short = part_length a.w a.i a.row.now c.requires.3 in
    omega (arith, e, degree_short (part a.w a.i a.row.now), short)

the_line : (c : After-of) → let a = c.args in row_line (length a.row.now / a.w) a.w a.d a.i a.row.now ≡ degrees c.degree_of-pivot.result.0 c.of.result.0 a.i ++ entries_text (length a.row.now / a.w) a.w a.row.now ++ line
the_line c = at_degrees _ _ _ _ _ _ _ (c.degree_of-pivot.ensures ∙ ap degree c.part_at.ensures) c.of.ensures

pub put_degrees-requires : goal.put_degrees-requires
put_degrees-requires c =
    let h = rw (the_line (goal.at.put_degrees-requires c).After-of) at c.requires.4 in
    (omega arith, search pieces)

pub put_entries-requires : goal.put_entries-requires
put_entries-requires c =
    let h = rw (the_line (goal.at.put_entries-requires c).After-of) at c.requires.4 in
    (omega arith, search pieces)

pub put-requires : goal.put-requires
put-requires c =
    let h = rw (the_line (goal.at.put-requires c).After-of) at c.requires.4 in
    search pieces

pub returns : goal.returns
returns c = rw (the_line (goal.at.returns c).After-of) (search pieces)
