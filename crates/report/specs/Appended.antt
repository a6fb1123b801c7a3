-- Appended: what a writer has room for, and what it holds after a text is appended.
use Rattle.std.specs.Prelude.{◌≡◌, List, ℕ}
use Rattle.report.specs.declared.Writer.{Writer}
use Rattle.report.specs.Wrote.{Room, Wrote}

abbrev pub RoomFor : List ℕ → Writer → Type 0
RoomFor text writer = Room text writer.out.now writer.at

-- in the same buffer
pub record Appended (text : List ℕ) (before after : Writer) : Type 0 where
  pub wrote : Wrote text before.out.now before.at after.out.now after.at
  pub same : after.out.ghost_name ≡ before.out.ghost_name
