-- What is said of an inverse, from the two cases of the answer turned inside out.
use mathlib.Core.Path.{◌≡◌}
use mathlib.Core.List.{[], ◌∷◌}
use Prim.Native.Nat.{ℕ}
use Rattle.std.specs.Prelude.{Option, Some, None, Result, Ok, Err}
use Rattle.std.specs.Result.{result_transpose}
use Rattle.field.specs.declared.Refusal.{Refusal}
use Rattle.field.specs.Answer.{no_inverse}
use Rattle.field.specs.Number.{number_of}
use Rattle.field.specs.Calls.{inverse_says, InvertOutcome}
use Rattle.embed.specs.Says.{says}

module _ (p a : ℕ) where
  pub inverse_some : (r : Result (Option ℕ) Refusal) (said : Result ℕ Refusal) → result_transpose r ≡ Some said → InvertOutcome p a (inverse_says r) → InvertOutcome p a (says (λ x. x ∷ []) number_of said)
  inverse_some (Ok (Some x)) said e w = let q : said ≡ Ok x = cc in rw q w
  inverse_some (Ok None) said e w = cc
  inverse_some (Err k) said e w = let q : said ≡ Err k = cc in rw q w

  pub inverse_none : (r : Result (Option ℕ) Refusal) → result_transpose r ≡ None → InvertOutcome p a (inverse_says r) → InvertOutcome p a no_inverse
  inverse_none (Ok (Some x)) e w = cc
  inverse_none (Ok None) e w = w
  inverse_none (Err k) e w = cc
