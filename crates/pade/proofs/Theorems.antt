-- What the pair call says of fractions, where its arguments pass their tests.
--   answers_exactly, refuses_exactly   it answers exactly where a fraction exists, and gives 13 exactly where none does
--   others_are_multiples               every fraction is a polynomial multiple of the one that is written
use mathlib.Core.Path.{◌≡◌, ap, sym, ◌∙◌}
use mathlib.Core.Logic.{◌↔◌, inl, inr}
use mathlib.Core.List.{List, []}
use Prim.Native.Nat.{ℕ}
use lib.ListN.{length}
use Rattle.field.specs.Refusal.{NoTest, First, Outcome}
use Rattle.field.specs.Answer.{Answer, result, refusal}
use Rattle.field.proofs.Outcome.{first_unique, first_or_none, answer, no_result_refused}
use Rattle.words.specs.Polynomial.{poly}
use Rattle.relation.specs.Polynomial.{PolynomialMultiple}
use Rattle.relation.specs.Fraction.{Fraction, HasFraction}
use Rattle.relation.proofs.Fraction.{fraction_of_lowest}
use Rattle.pade.specs.Orders.{arguments_order, pair_order}
use Rattle.pade.specs.Pair.{PairWritten, PairOutcome}
use Rattle.pade.proofs.Admitted.{pair_lent, none_holds, last_holds}

module _ (p k : ℕ) (g r t : List ℕ) (said : Answer) (r' t' : List ℕ) (passed : NoTest (arguments_order p k g (length r) (length t))) (o : PairOutcome p k g r t said r' t') where
  answered : HasFraction p k (length g) (poly g) → (said ≡ result []) × PairWritten p k g r' t'
  unfolding PairOutcome
  answered x = answer (pair_order p k g (length r) (length t)) _ _ o (none_holds p k g (length r) (length t) passed x)

  pub answers_exactly : (said ≡ result []) ↔ HasFraction p k (length g) (poly g)
  unfolding PairOutcome Outcome
  answers_exactly = (to o, λ x. (answered x).0)
    where
      to : PairOutcome p k g r t said r' t' → said ≡ result [] → HasFraction p k (length g) (poly g)
      to (inl a) e = (poly r', poly t', a.1.1.lowest.fraction)
      to (inr b) e = absurd (no_result_refused (sym e ∙ b.2.0))

  pub refuses_exactly : (said ≡ refusal 13) ↔ (¬ (HasFraction p k (length g) (poly g)))
  unfolding PairOutcome Outcome
  refuses_exactly = ((λ e x. no_result_refused (sym (answered x).0 ∙ e)), λ none. from o (last_holds p k g (length r) (length t) passed none))
    where
      from : PairOutcome p k g r t said r' t' → First (pair_order p k g (length r) (length t)) 13 → said ≡ refusal 13
      from (inl a) f = absurd (first_or_none _ 13 f a.0)
      from (inr b) f = b.2.0 ∙ ap refusal (first_unique (pair_order p k g (length r) (length t)) b.0 13 b.1 f)

  pub others_are_multiples : {a b : ℕ → ℕ} → Fraction p k (length g) (poly g) a b → PolynomialMultiple p (poly r') (poly t') a b
  others_are_multiples {a} {b} f =
      let s = (pair_lent p k g (length r) (length t) passed).sizes in
      fraction_of_lowest s.modulus.prime s.k_from s.k_to (answered (a, b, f)).1.lowest f
