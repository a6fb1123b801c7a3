-- `numbers` meets its contract: the numbers taken so far stand in front.
use mathlib.Core.Path.{◌≡◌}
use mathlib.Core.List.{List, ◌++◌}
use Prim.Native.Nat.{ℕ, ◌-◌}
use lib.ListN.{length, take}
use Rattle.tokens.specs.Tokens.{Tokens, rest}
use Rattle.jobtext.specs.Job.{JobText, many_numbers, is_below}
use Rattle.jobtext.proofs.Reader.numbers.Given as goal

abbrev pub invariant-loop-value : goal.invariant-loop-value
invariant-loop-value l =
    (go : List ℕ → Tokens → JobText)
    → many_numbers (is_below l.limit) l.slip (length l.out) go (rest l.fn.self.text.now l.fn.self.here.at l.fn.self.here.line)
    ≡ many_numbers (is_below l.limit) l.slip (length l.out - l.value-index) (λ x. go (take l.value-index l.out ++ x)) (rest l.self.text.now l.self.here.at l.self.here.line)
