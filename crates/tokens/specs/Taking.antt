-- Taking: the next word of a text is taken, and the scan goes on behind it.
use Rattle.std.specs.Prelude.{◌≡◌, List, ℕ, ◌+◌, ◌-◌, ◌≤◌, ◌<◌, length, take, drop, Result, Ok, Err}
use Rattle.tokens.specs.declared.End.{End}
use Rattle.tokens.specs.declared.Position.{Position}
use Rattle.tokens.specs.declared.Word.{Word}
use Rattle.tokens.specs.Tokens.{text_end, word, rest}

-- a position in a text, between words: the line is at most one more than the bytes passed
pub record IsPosition (text : List ℕ) (p : Position) : Type 0 where
  pub inside : p.at ≤ length text
  pub lines : p.line ≤ p.at + 1

-- the word lies behind the position and has at least one byte
unfoldable pub TakesWord : List ℕ → Position → Result Word End → Type 0
TakesWord text p (Ok w) =
    (p.at ≤ w.from) × (w.from < w.to) × IsPosition text (record { at = w.to; line = w.line })
    × (rest text p.at p.line ≡ word w.line (take (w.to - w.from) (drop w.from text)) (rest text w.to w.line))
TakesWord text p (Err e) = rest text p.at p.line ≡ text_end e.line
