-- Tokens: the words of a text, each with the number of its line, counted from 1, and the line on which the text ends.
-- Words are separated by spaces, tabs, carriage returns and new lines; `#` begins a comment, which ends before the next new line.
use Rattle.std.specs.Prelude.{Bool, true, false, cond, List, [], ◌∷◌, ◌++◌, ℕ, suc, eqb, drop}
use Rattle.tokens.specs.declared.Class.{Class}

pub data Tokens : Type 0 where
  text_end : ℕ → Tokens
  word : ℕ → List ℕ → Tokens → Tokens

-- what a byte is
unfoldable pub class_of : ℕ → Class
class_of b =
    cond (eqb b 10) Class.Newline (cond (eqb b 35) Class.Hash (cond (eqb b 32) Class.Blank (cond (eqb b 9) Class.Blank (cond (eqb b 13) Class.Blank Class.Other))))

-- a byte of this class stands behind a word
abbrev pub ends : Class → Bool
ends Class.Newline = true
ends Class.Hash = true
ends Class.Blank = true
ends Class.Other = false

-- where a scan stands: between words, in a comment, or in a word of which it has passed these bytes
pub data Standing : Type 0 where
  between : Standing
  comment : Standing
  within : List ℕ → Standing

-- the tokens from there on, on a line
unfoldable pub scan : Standing → ℕ → List ℕ → Tokens
scan between l [] = text_end l
scan comment l [] = text_end l
scan (within w) l [] = word l w (text_end l)
scan between l (b ∷ t) = elim (class_of b) [
  | Class.Newline ↦ scan between (suc l) t
  | Class.Hash ↦ scan comment l t
  | Class.Blank ↦ scan between l t
  | Class.Other ↦ scan (within (b ∷ [])) l t
]
scan comment l (b ∷ t) = elim (eqb b 10) [ true ↦ scan between (suc l) t | false ↦ scan comment l t ]
scan (within w) l (b ∷ t) = elim (class_of b) [
  | Class.Newline ↦ word l w (scan between (suc l) t)
  | Class.Hash ↦ word l w (scan comment l t)
  | Class.Blank ↦ word l w (scan between l t)
  | Class.Other ↦ scan (within (w ++ (b ∷ []))) l t
]

-- from a position between words
unfoldable pub rest : List ℕ → ℕ → ℕ → Tokens
rest text at l = scan between l (drop at text)

unfoldable pub tokens : List ℕ → Tokens
tokens text = scan between 1 text
