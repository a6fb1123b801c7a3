-- What is known where no test of the arguments holds.
use mathlib.Core.Path.{◌≡◌, refl}
use mathlib.Core.Logic.{◌⊎◌, inl, inr}
use mathlib.Core.List.{List}
use Prim.Native.Nat.{ℕ, ◌<◌}
use native.Mathlib.Decide.{dec_lt}
use native.Mathlib.Omega.{arith}
use lib.ListN.{length}
use Rattle.field.specs.Modulus.{Modulus}
use Rattle.field.specs.Refusal.{NoTest, First}
use Rattle.field.proofs.Tests.{modulus_passed}
use Rattle.field.proofs.Outcome.{none_both, first_right}
use Rattle.field.proofs.Truth.{same_of, neither}
use Rattle.words.specs.Polynomial.{poly}
use Rattle.relation.specs.Fraction.{HasFraction}
use Rattle.pade.specs.PairSizes.{PairLent}
use Rattle.pade.specs.Orders.{rest_order, arguments_order, last_order, pair_order}

pub pair_lent : (p k : ℕ) (g : List ℕ) (r t : ℕ) → NoTest (arguments_order p k g r t) → PairLent p k g r t
unfolding NoTest
pair_lent p k g r t n =
    let rest = n.1 in
    let k-in = neither rest.1.0 in
    let words = neither rest.1.1.0 in
    record {
      sizes = record {
        modulus = modulus_passed p (rest_order p k g r t) n;
        n_to = omega (arith, rest.0);
        k_from = omega (arith, k-in.0);
        k_to = omega (arith, k-in.1);
      };
      r_words = same_of _ _ words.0;
      t_words = same_of _ _ words.1;
    }

-- where a fraction exists no test holds, and where none does the last one is the first to hold
module _ (p k : ℕ) (g : List ℕ) (r t : ℕ) (passed : NoTest (arguments_order p k g r t)) where
  pub none_holds : HasFraction p k (length g) (poly g) → NoTest (pair_order p k g r t)
  unfolding NoTest
  none_holds x =
      let last : NoTest (last_order p k g) = ((λ none. none x), tt) in
      none_both (arguments_order p k g r t) (last_order p k g) passed last

  pub last_holds : ¬ (HasFraction p k (length g) (poly g)) → First (pair_order p k g r t) 13
  unfolding First
  last_holds none = first_right (arguments_order p k g r t) (last_order p k g) 13 passed (inl (none, refl))

-- at N = 0 the pair gives 7
pub no_coefficients : (p k : ℕ) (g : List ℕ) (r t : ℕ) → Modulus p → length g ≡ 0 → First (pair_order p k g r t) 7
unfolding First
no_coefficients p k g r t m e = inr ((λ n. n m), inr (omega arith, inl (outside, refl)))
  where
    outside : (k < 1) ⊎ (length g < k)
    outside = elim (dec_lt k 1) [ yes h ↦ inl h | no h ↦ inr (omega arith) ]
