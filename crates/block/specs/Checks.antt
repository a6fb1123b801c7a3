-- The checks of a block (document 01, "Job file"). Start with A = 1, B = 0; for words 0 to 125 in turn add the word to A, then A to B,
-- both wrapping at 32 bits.
use Rattle.std.specs.Prelude.{ℕ, zero, suc, ◌+◌, ◌%◌, ◌^◌}
use Rattle.block.specs.declared.Checks.{Checks}

-- one word more: it is added to A, and then the new A to B
unfoldable pub added : Checks → ℕ → Checks
added c w = record { a = (c.a + w) % 2 ^ 32; b = (c.b + (c.a + w) % 2 ^ 32) % 2 ^ 32 }

-- the first k of the words w 0, w 1, .. added in turn
unfoldable pub summed : (ℕ → ℕ) → ℕ → Checks
summed w zero = record { a = 1; b = 0 }
summed w (suc k) = added (summed w k) (w k)

-- words 0 to 125
unfoldable pub checks_of : (ℕ → ℕ) → Checks
checks_of w = summed w 126
