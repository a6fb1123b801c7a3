-- Wrote: a text is appended to a lent buffer at a position; the bytes before it and after it stay.
use Rattle.std.specs.Prelude.{◌≡◌, List, ℕ, ◌+◌, ◌≤◌, length}
use Rattle.std.proofs.lemmas.List.Edits.{sets}

-- the text fits
pub record Room (text buffer : List ℕ) (at : ℕ) : Type 0 where
  pub fits : at + length text ≤ length buffer

pub record Wrote (text before : List ℕ) (at : ℕ) (after : List ℕ) (next : ℕ) : Type 0 where
  pub position : next ≡ at + length text
  pub bytes : after ≡ sets before at text
