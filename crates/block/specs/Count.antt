-- The tests of a file that should hold count words in just enough blocks (document 01, "Refusal numbers"): 11, another number of blocks,
-- then 12, a spare payload word is not zero.
use Rattle.std.specs.Prelude.{ℕ, ◌-◌, ◌*◌, ◌≢◌, List, [], ◌∷◌}
use Rattle.field.specs.Refusal.{Order, ◌when◌}
use Rattle.words.specs.Some.{Some}
use Rattle.block.specs.File.{blocks_for}
use Rattle.block.specs.Part.{blocks_in, payload_part}

-- the words of the payloads joined after the first count
abbrev pub spare_from : List ℕ → ℕ → List ℕ
spare_from file count = payload_part file count (125 * blocks_in file - count)

abbrev pub count_tests : List ℕ → ℕ → Order
count_tests file count =
    (11 when (blocks_in file ≢ blocks_for count))
    ∷ (12 when (Some (λ x. x ≢ 0) (spare_from file count)))
    ∷ []
