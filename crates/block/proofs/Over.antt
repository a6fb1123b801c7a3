-- A part of a file's payload, written over the first of the lent words.
use Rattle.std.proofs.Common.{◌≡◌, ℕ, ◌≤◌, List, ◌++◌, length, take, drop, ap, length-take-le}
use Rattle.block.specs.Part.{payload_part}
use Rattle.words.specs.Lent.{over}
use Rattle.block.proofs.Payload.{length_part}

-- a part of a file's payload, written over the first n of the lent words
pub part_over : (file lent x : List ℕ) (from from' n n' : ℕ) → from ≡ from' → n ≡ n' → n ≤ length lent
    → x ≡ payload_part file from (length (take n lent)) → x ++ drop n lent ≡ over (payload_part file from' n') lent
part_over file lent x from from' n n' f e h w =
    rw (length_part file from' n', ← f, ← e, ← length-take-le n lent h) (ap (λ (l : List ℕ). l ++ drop (length (take n lent)) lent) w)
