-- `skip` meets its contract: the tokens from here on are those from the start.
use mathlib.Core.Path.{◌≡◌}
use Prim.Native.Nat.{◌-◌, ◌≤◌}
use lib.ListN.{length}
use Rattle.tokens.specs.Tokens.{rest}
use Rattle.tokens.specs.Taking.{IsPosition}
use Rattle.tokens.proofs.skip.Given as goal

abbrev pub invariant-loop-here : goal.invariant-loop-here
invariant-loop-here l = record {
  behind : l.fn.start.at ≤ l.here.at;
  inside : IsPosition l.text l.here;
  same_rest : rest l.text l.fn.start.at l.fn.start.line ≡ rest l.text l.here.at l.here.line;
}

abbrev pub decreases-loop-here : goal.decreases-loop-here
decreases-loop-here l = length l.text - l.here.at
