-- `read_digits` meets its contract: the number so far, and what is left of the word.
use mathlib.Core.Path.{◌≡◌}
use Prim.Native.Nat.{◌^◌, ◌<◌}
use lib.ListN.{drop}
use Rattle.tokens.specs.Number.{numeral_from}
use Rattle.tokens.proofs.read_digits.Given as goal

abbrev pub invariant-loop-b : goal.invariant-loop-b
invariant-loop-b l = (l.value < 2 ^ 36) × (numeral_from 0 l.word ≡ numeral_from l.value (drop l.b-index l.word))
