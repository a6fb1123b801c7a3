-- Relations: V_s is the set of the vectors P of n polynomials modulo p with every coefficient
-- of X^0 to X^(s-1) in the sum of the P_i f_i zero modulo p. V_0 is everything.
use Rattle.std.specs.Prelude.{◌≡◌, ℕ, ◌%◌, ◌<◌}
use Rattle.relation.specs.Product.{dot}
use Rattle.relation.specs.Vector.{Vect, IsVec}

-- the sum of the P_i f_i is zero modulo p to order s
abbrev pub VanishesTo : ℕ → ℕ → Vect → ℕ → Vect → Type 0
VanishesTo p n F s P = (k : ℕ) → k < s → dot n P F k % p ≡ 0

-- P is a relation to order s, a member of V_s
pub record Relation (p n : ℕ) (F : Vect) (s : ℕ) (P : Vect) : Type 0 where
  pub vector : IsVec p n P
  pub vanishes : VanishesTo p n F s P
