-- The faults of blocks in turn (document 01, "Refusal numbers"): block by block 9, the number is wrong, then 10, check A or B is wrong.
use Rattle.std.specs.Prelude.{ℕ, zero, suc, ◌≢◌, List, [], ◌∷◌, take, drop}
use Rattle.field.specs.Refusal.{Order, ◌when◌}
use Rattle.block.specs.Read.{number_of, Sound}

-- of count blocks, which should be numbered from first
unfoldable pub faults : ℕ → ℕ → List ℕ → Order
faults first zero file = []
faults first (suc count) file =
    (9 when (number_of (take 512 file) ≢ first)) ∷ (10 when (¬ Sound (take 512 file))) ∷ faults (suc first) count (drop 512 file)
