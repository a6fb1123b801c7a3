-- What rows are made of: multiples, also added ones, X times a row, unit rows. Contracts of the operations on words cite them.
use Rattle.std.specs.Prelude.{ℕ, zero, suc, ◌+◌, ◌*◌, ◌%◌}
use Rattle.std.proofs.Math.Decide.{ℕ_discrete}
use Rattle.relation.specs.Sum.{sum_to}
use Rattle.relation.specs.Vector.{Vect}
use Rattle.relation.specs.Pick.{pick}

-- h * f modulo p
abbrev pub scaled : ℕ → ℕ → (ℕ → ℕ) → ℕ → ℕ
scaled p h f x = (h * f x) % p

-- P + c * S
unfoldable pub add_multiple : ℕ → ℕ → Vect → Vect → Vect
add_multiple p c S P = λ i k. (P i k + c * S i k) % p

-- P + the sum of the a l * R l, l < N
unfoldable pub add_multiples : ℕ → ℕ → (ℕ → ℕ) → (ℕ → Vect) → Vect → Vect
add_multiples p N a R P k t = (P k t + sum_to N (λ l. a l * R l k t)) % p

-- X * P
unfoldable pub times_x : Vect → Vect
times_x P i zero = 0
times_x P i (suc k) = P i k

-- the vector whose entry l is 1
unfoldable pub unit : ℕ → Vect
unit l i zero = pick (ℕ_discrete i l) 1 0
unit l i (suc k) = 0
