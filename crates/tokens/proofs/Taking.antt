-- What was taken, by the case of the answer.
use mathlib.Core.Path.{◌≡◌, subst}
use mathlib.Core.List.{List}
use Prim.Native.Nat.{ℕ, ◌-◌, ◌≤◌, ◌<◌}
use lib.ListN.{take, drop}
use Rattle.std.specs.Prelude.{Result, Ok, Err}
use Rattle.tokens.specs.declared.End.{End}
use Rattle.tokens.specs.declared.Position.{Position}
use Rattle.tokens.specs.declared.Word.{Word}
use Rattle.tokens.specs.Tokens.{text_end, word, rest}
use Rattle.tokens.specs.Taking.{IsPosition, TakesWord}

module _ (text : List ℕ) (p : Position) {r : Result Word End} where
  pub took_word : {w : Word} → r ≡ Ok w → TakesWord text p r
      → (p.at ≤ w.from) × (w.from < w.to) × IsPosition text (record { at = w.to; line = w.line })
      × (rest text p.at p.line ≡ word w.line (take (w.to - w.from) (drop w.from text)) (rest text w.to w.line))
  unfolding TakesWord
  took_word e h = subst (TakesWord text p) e h

  pub took_end : {e : End} → r ≡ Err e → TakesWord text p r → rest text p.at p.line ≡ text_end e.line
  unfolding TakesWord
  took_end e h = subst (TakesWord text p) e h
