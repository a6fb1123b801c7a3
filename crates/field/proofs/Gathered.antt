-- Sums of products whose first factors are cut at v bits: how large the products of the parts are, one product more, and the residue; and how gathered sums follow each other.
use Rattle.std.proofs.Common.{◌≡◌, ℕ, ◌+◌, ◌*◌, ◌/◌, ◌%◌, ◌^◌, ◌<◌, ◌≤◌, add_assoc, mod-lt, add-mul, zero-add, mul_right_comm, arith, pow_pos, shr_lt}
use native.Mathlib.Nat.{mod-add-div'}
use Rattle.field.specs.declared.Halves.{Halves}
use Rattle.field.specs.Gathered.{Gathers}
use Rattle.field.proofs.Words.{sum_product}

-- the products of both parts of a number of 2v bits with one of w bits
pub part_products : (v w a b : ℕ) → a < 2 ^ (v + v) → b < 2 ^ w → (a % 2 ^ v * b < 2 ^ (v + w)) × (a / 2 ^ v * b < 2 ^ (v + w))
part_products v w a b g h =
    let fits : (x : ℕ) → x < 2 ^ v → x * b < 2 ^ (v + w) = λ x k. rw zero-add at (sum_product v w 0 x b (pow_pos w) k h) in
    (fits (a % 2 ^ v) (mod-lt a (pow_pos v)), fits (a / 2 ^ v) (shr_lt v v g))

-- both parts of a product are in the sum
pub halves_plus : (v low high a b : ℕ) → low + a % 2 ^ v * b + (high + a / 2 ^ v * b) * 2 ^ v ≡ low + high * 2 ^ v + a * b
halves_plus v low high a b =
    let e : (a % 2 ^ v + a / 2 ^ v * 2 ^ v) * b ≡ a * b = rw (mod-add-div' a (2 ^ v)) in
    omega (arith, e, add-mul (a % 2 ^ v) (a / 2 ^ v * 2 ^ v) b, add-mul high (a / 2 ^ v * b) (2 ^ v), mul_right_comm (a / 2 ^ v) b (2 ^ v))

-- nothing gathered yet
pub gathers_none : (s : Halves) → Gathers 0 s 0 s
gathers_none s = record { sum = omega arith; room = λ m r. rw zero-add at r }

-- one sum after the other
pub gathers_then : {s h r : Halves} {x y : ℕ} (j k : ℕ) → Gathers j s x h → Gathers k h y r → Gathers (j + k) s (x + y) r
gathers_then j k a b = record {
  sum = omega (arith, a.sum, b.sum);
  room = λ m fits. b.room m (a.room (k + m) (rw add_assoc at fits));
}

-- more products may be said than there are
pub gathers_most : {s h : Halves} {x : ℕ} (k l : ℕ) → k ≤ l → Gathers k s x h → Gathers l s x h
gathers_most k l le a = record { sum = a.sum; room = λ m fits. a.room m (record { low = omega arith; high = omega arith }) }
