-- From the tests and the work to the outcome of the call: the last test is known once the work is done.
use Rattle.std.proofs.Common.{ℕ, List, length, Result, Ok, Err, refl, ap, inl, inr}
use Rattle.field.specs.declared.Refusal.{Refusal}
use Rattle.field.specs.Number.{number_of}
use Rattle.field.specs.Calls.{Tests}
use Rattle.field.specs.Refusal.{NoTest, Outcome}
use Rattle.field.specs.Answer.{refusal}
use Rattle.field.proofs.Tests.{stopped}
use Rattle.field.proofs.Outcome.{first_left}
use Rattle.words.specs.Polynomial.{poly}
use Rattle.pade.specs.Answer.{pair_says}
use Rattle.pade.specs.Orders.{arguments_order, last_order}
use Rattle.pade.specs.Pair.{PairOutcome}
use Rattle.pade.specs.Work.{FractionOrNone}
use Rattle.pade.proofs.Admitted.{none_holds, last_holds}

module _ (p k : ℕ) (g r t : List ℕ) where
  -- the arguments are refused
  pub refused : (e : Refusal) → Tests (arguments_order p k g (length r) (length t)) (Err e) → PairOutcome p k g r t (refusal (number_of e)) r t
  unfolding PairOutcome Outcome
  refused e h = inr (number_of e, first_left (arguments_order p k g (length r) (length t)) (last_order p k g) (number_of e) (stopped _ e h), (refl, refl, refl))

  -- a fraction was found, or there is none
  pub answered : (r' t' : List ℕ) → NoTest (arguments_order p k g (length r) (length t)) → (said : Result Unit Refusal)
      → FractionOrNone p k g r t said r' t' → PairOutcome p k g r t (pair_says said) r' t'
  unfolding PairOutcome Outcome
  answered r' t' passed (Ok u) w = inl (none_holds p k g (length r) (length t) passed (poly r', poly t', w.lowest.fraction), (refl, w))
  answered r' t' passed (Err e) n =
      inr (13, last_holds p k g (length r) (length t) passed n.1, (ap (λ (x : Refusal). refusal (number_of x)) n.0, n.2, n.3))
