-- Refusals: a call's order is a table of numbers, each beside its test; the number given is that of the first test that holds.
use Rattle.std.specs.Prelude.{◌≡◌, ℕ, ◌⊎◌, List, [], ◌∷◌}

-- a line of an order: the refusal's number, and its test
pub record Line : Type 1 where
  pub number : ℕ
  pub test : Type 0

abbrev pub Order : Type 1
Order = List Line

infix 60 ◌when◌
abbrev pub ◌when◌ : ℕ → Type 0 → Line
k when t = record { number = k; test = t }

-- no test of the order holds
unfoldable pub NoTest : Order → Type 0
NoTest [] = Unit
NoTest (l ∷ o) = (¬ l.test) × NoTest o

-- k is the number of the first test that holds
unfoldable pub First : Order → ℕ → Type 0
First [] k = ⊥
First (l ∷ o) k = (l.test × (l.number ≡ k)) ⊎ ((¬ l.test) × First o k)

-- a call answers where no test holds, and else is refused with the number of the first that does
unfoldable pub Outcome : Order → (ℕ → Type 0) → Type 0 → Type 0
Outcome o Refused Answered = (NoTest o × Answered) ⊎ ((k : ℕ) × First o k × Refused k)
