-- A search among rows none of which is left out.
use mathlib.Core.Path.{◌≡◌, refl, subst}
use mathlib.Core.Logic.{◌≢◌}
use mathlib.Core.List.{List, [], ◌∷◌}
use Prim.Native.Nat.{ℕ, zero, suc, ◌≤◌, ◌<◌}
use native.Mathlib.Omega.{arith}
use lib.ListN.{length, get_or}
use Rattle.std.specs.Prelude.{Option, None, Some, IsSome}
use Rattle.step.specs.Search.{LeastAmong}

pub least_of_all : (n : ℕ) (flag v : ℕ → ℕ) (r : Option ℕ) (i : ℕ) → LeastAmong n flag v r → r ≡ Some i → ((l : ℕ) → l < n → flag l ≢ 0)
    → (i < n) × ((l : ℕ) → l < n → v i ≤ v l)
least_of_all n flag v r i h e nz =
    let f = subst (LeastAmong n flag v) e h in
    (f.row<, λ l hl. f.least l hl (nz l hl))

pub one_is_least : (n : ℕ) (flag v : ℕ → ℕ) (r : Option ℕ) → LeastAmong n flag v r → ((l : ℕ) → l < n → flag l ≢ 0) → 0 < n → IsSome r
one_is_least n flag v None h nz hn = absurd (nz 0 hn (h 0 hn))
one_is_least n flag v (Some i) h nz hn = refl

-- the flags of a search among all rows
abbrev pub ones : List ℕ
ones = 1 ∷ 1 ∷ 1 ∷ 1 ∷ 1 ∷ 1 ∷ 1 ∷ 1 ∷ []

NoZero : List ℕ → Type 0
NoZero [] = Unit
NoZero (x ∷ xs) = (x ≢ 0) × NoZero xs

no_zero : (xs : List ℕ) → NoZero xs → (l : ℕ) → l < length xs → get_or xs l 0 ≢ 0
unfolding NoZero
no_zero [] h l g = absurd (omega arith)
no_zero (x ∷ xs) h zero g = h.0
no_zero (x ∷ xs) h (suc l) g = no_zero xs h.1 l (omega arith)

pub one_each : (l : ℕ) → l < 8 → get_or ones l 0 ≢ 0
unfolding NoZero
one_each l h = no_zero ones (omega arith) l h
