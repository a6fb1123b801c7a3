-- The admitted sizes of document 01 for a pair, as they are known where no test of the arguments holds.
use Rattle.std.specs.Prelude.{◌≡◌, List, ℕ, ◌+◌, ◌-◌, ◌≤◌, length}
use Rattle.std.specs.Coded.{le_prop}
use Rattle.field.specs.Modulus.{Modulus}
use Rattle.step.specs.Prime.{Prime-prop}

pub record PairSizes (p k : ℕ) (g : List ℕ) : Type 0 where
  pub modulus : Modulus p
  pub n_to : length g ≤ 255
  pub k_from : 1 ≤ k
  pub k_to : k ≤ length g

Modulus-prop : (p : ℕ) → IsProp (Modulus p)
Modulus-prop p x y = λ i. record {
  prime = Prime-prop p x.prime y.prime i;
  at_most = le_prop x.at_most y.at_most i;
}

-- they are known in one way, so that a struct may keep them
pub PairSizes-prop : (p k : ℕ) (g : List ℕ) → IsProp (PairSizes p k g)
PairSizes-prop p k g x y = λ i. record {
  modulus = Modulus-prop p x.modulus y.modulus i;
  n_to = le_prop x.n_to y.n_to i;
  k_from = le_prop x.k_from y.k_from i;
  k_to = le_prop x.k_to y.k_to i;
}

-- and r and t of that many words
pub record PairLent (p k : ℕ) (g : List ℕ) (r t : ℕ) : Type 0 where
  pub sizes : PairSizes p k g
  pub r_words : r ≡ k
  pub t_words : t ≡ length g - k + 1
