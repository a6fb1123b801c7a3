-- The outcome of the pair call: r in k words and t in N - k + 1, for the N coefficients of g.
use Rattle.std.specs.Prelude.{◌≡◌, List, [], ℕ, ◌+◌, ◌-◌, length}
use Rattle.field.specs.Refusal.{Outcome}
use Rattle.field.specs.Answer.{Answer, result, refusal}
use Rattle.words.specs.Polynomial.{poly}
use Rattle.relation.specs.Fraction.{LowestFraction}
use Rattle.pade.specs.Orders.{pair_order}

pub record PairWritten (p k : ℕ) (g r t : List ℕ) : Type 0 where
  pub r_words : length r ≡ k
  pub t_words : length t ≡ length g - k + 1
  pub lowest : LowestFraction p k (length g) (poly g) (poly r) (poly t)

-- r and t are lent as `r` and `t` and left as `r'` and `t'`
unfoldable pub PairOutcome : ℕ → ℕ → List ℕ → List ℕ → List ℕ → Answer → List ℕ → List ℕ → Type 0
PairOutcome p k g r t said r' t' =
    Outcome (pair_order p k g (length r) (length t)) (λ j. (said ≡ refusal j) × (r' ≡ r) × (t' ≡ t)) ((said ≡ result []) × PairWritten p k g r' t')
