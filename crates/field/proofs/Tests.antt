-- What a call's tests found: no test holds where they passed, and else the number is the first one's; how tests follow each other.
use Rattle.std.proofs.Common.{ℕ, ◌<◌, ◌≤◌, [], ◌∷◌, ◌++◌, Result, Ok, Err, IsOk, refl, inl, inr, arith}
use Rattle.field.specs.declared.Refusal.{Refusal}
use Rattle.field.specs.Number.{number_of}
use Rattle.field.specs.Refusal.{Line, Order, ◌when◌, NoTest, First, Outcome}
use Rattle.field.specs.Calls.{Tests, operand_order}
use Rattle.field.specs.Modulus.{Modulus}
use Rattle.field.proofs.Outcome.{first_left, outcome_after}
use Rattle.field.proofs.ModulusTest.{modulus_decided}

pub passed : (o : Order) (u : Unit {0}) → Tests o (Ok u) → NoTest o
unfolding Outcome
passed o u (inl a) = a.0
passed o u (inr a) = absurd a.2

pub stopped : (o : Order) (e : Refusal) → Tests o (Err e) → First o (number_of e)
unfolding Outcome
stopped o e (inl a) = absurd (let h : IsOk {T = Unit {0}} (Err e) = a.1 in cc)
stopped o e (inr a) = rw a.2 a.1

-- tests line by line: the first line's test holds
pub here : (o : Order) (T : Type 0) (e : Refusal) → T → Tests ((number_of e when T) ∷ o) (Err e)
unfolding Outcome First
here o T e y = inr (number_of e, inl (y, refl), refl)

-- it does not
pub later : (l : Line) (o : Order) (t : Result Unit Refusal) → ¬ l.test → Tests o t → Tests (l ∷ o) t
unfolding Outcome First NoTest
later l o t n (inl a) = inl ((n, a.0), a.1)
later l o t n (inr b) = inr (b.0, inr (n, b.1), b.2)

pub no_more : (u : Unit {0}) → Tests [] (Ok u)
unfolding Outcome NoTest
no_more u = inl (tt, refl)

-- one run of tests after another
module _ (o o' : Order) where
  -- o passed, and o' is tested
  pub and_then : (u : Unit {0}) (t : Result Unit Refusal) → Tests o (Ok u) → Tests o' t → Tests (o ++ o') t
  and_then u t h = outcome_after o o' _ _ (passed o u h)

  -- o is refused
  pub and_stop : (e : Refusal) → Tests o (Err e) → Tests (o ++ o') (Err e)
  unfolding Outcome
  and_stop e h = inr (number_of e, first_left o o' _ (stopped o e h), refl)

-- what a call gives after its tests
module _ (o : Order) (R : ℕ → Type 0) (A : Type 0) where
  pub answers : (u : Unit {0}) → Tests o (Ok u) → A → Outcome o R A
  unfolding Outcome
  answers u h a = inl (passed o u h, a)

  pub refuses : (e : Refusal) → Tests o (Err e) → R (number_of e) → Outcome o R A
  unfolding Outcome
  refuses e h r = inr (number_of e, stopped o e h, r)

-- a call that begins with the test of the modulus
pub modulus_passed : (p : ℕ) (o : Order) → NoTest ((1 when (¬ (Modulus p))) ∷ o) → Modulus p
unfolding NoTest
modulus_passed p o n = elim (modulus_decided p) [
  | yes m ↦ m
  | no nm ↦ absurd (n.0 nm)
]

pub operand_passed : (p a : ℕ) → NoTest (operand_order p a) → Modulus p × (a < p)
unfolding NoTest
operand_passed p a n = (modulus_passed p ((6 when (p ≤ a)) ∷ []) n, omega (arith, n.1.0))
