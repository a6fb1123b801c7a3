-- `word_end` meets its contract: what was passed is the word's.
use mathlib.Core.Path.{ap}
use Prim.Native.Nat.{ℕ, ◌+◌}
use native.Mathlib.Omega.{arith}
use borrow.Author.Tests.{tests}
use Rattle.std.proofs.Common.{rules, length, take, drop, ◌-◌}
use Rattle.std.proofs.lemmas.Iterator.{YieldsList-from_slice}
use Rattle.std.proofs.lemmas.Iterator.Search.{position_from_yields_List}
use Rattle.tokens.specs.Tokens.{class_of, ends}
use Rattle.tokens.proofs.Found.{stops_at}
use Rattle.tokens.proofs.Scan.{word_passed}
use Rattle.tokens.proofs.word_end.Goals as goal

pub returns : goal.returns
returns c =
    let text = c.args.text.now in
    let at = c.args.at in
    let found = position_from_yields_List (λ (b : ℕ). ends (class_of b)) _ _ c.position.result c.position.ensures.ran (YieldsList-from_slice (take (length text - at) (drop at text)) cc) (λ x b q k. search (rules, tests)) in
    word_passed text at _ (omega arith) c.requires.0 c.requires.1 (ap (λ (n : ℕ). at + n) (stops_at _ text at found c.unwrap_or.ensures))
