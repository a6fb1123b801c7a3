-- A test that computes, with what it shows when it passes; tests of numbers, and tests made of tests.
use mathlib.Core.Path.{◌≡◌, refl, ap}
use mathlib.Core.Logic.{◌≢◌, ◌⊎◌, inl, inr}
use mathlib.Core.Bool.{Bool, true, false, not}
use mathlib.Core.List.{List, [], ◌∷◌}
use Prim.Native.Nat.{ℕ, zero, suc, ◌≤◌, ◌<◌}
use native.Mathlib.Decide.{ℕ_discrete}
use native.Mathlib.Omega.{arith}
use lib.Dec.{T, leb, ltb, eqb, leb→le, ltb→lt, eqb→eq, eqb_refl, T_not}
use lib.IntN.{ℤ, pos, negsuc}

pub record Test (A : Type 0) : Type 0 where
  pub passes : Bool
  pub shows : T passes → A

abbrev pub passed : {A : Type 0} → A → Test A
passed a = record { passes = true; shows = λ t. a }

abbrev pub from : {A B : Type 0} → Test A → (A → B) → Test B
from x f = record { passes = x.passes; shows = λ t. f (x.shows t) }

abbrev and : Bool → Bool → Bool
and true b = b
and false b = false

pub and_split : (a b : Bool) → T (and a b) → T a × T b
and_split true b t = (tt, t)
and_split false b t = absurd t

-- numbers and lists of them
abbrev pub equal : (a b : ℕ) → Test (a ≡ b)
equal a b = record { passes = eqb a b; shows = eqb→eq a b }

abbrev pub at_most_test : (a b : ℕ) → Test (a ≤ b)
at_most_test a b = record { passes = leb a b; shows = leb→le a b }

abbrev pub below : (a b : ℕ) → Test (a < b)
below a b = record { passes = ltb a b; shows = ltb→lt a b }

abbrev pub nonzero : (a : ℕ) → Test (a ≢ 0)
nonzero a = record { passes = not (eqb a 0); shows = λ t q. T_not (eqb a 0) t (rw q (eqb_refl 0)) }

abbrev eqℤ : ℤ → ℤ → Bool
eqℤ (pos a) (pos b) = eqb a b
eqℤ (pos a) (negsuc b) = false
eqℤ (negsuc a) (pos b) = false
eqℤ (negsuc a) (negsuc b) = eqb a b

pub eqℤ-is : (x y : ℤ) → T (eqℤ x y) → x ≡ y
eqℤ-is (pos a) (pos b) t = ap pos (eqb→eq a b t)
eqℤ-is (pos a) (negsuc b) t = absurd t
eqℤ-is (negsuc a) (pos b) t = absurd t
eqℤ-is (negsuc a) (negsuc b) t = ap negsuc (eqb→eq a b t)

abbrev pub equalℤ : (x y : ℤ) → Test (x ≡ y)
equalℤ x y = record { passes = eqℤ x y; shows = eqℤ-is x y }

abbrev eq_list : List ℕ → List ℕ → Bool
eq_list [] [] = true
eq_list [] (y ∷ ys) = false
eq_list (x ∷ xs) [] = false
eq_list (x ∷ xs) (y ∷ ys) = and (eqb x y) (eq_list xs ys)

pub eq_list_is : (l r : List ℕ) → T (eq_list l r) → l ≡ r
eq_list_is [] [] t = refl
eq_list_is [] (y ∷ ys) t = absurd t
eq_list_is (x ∷ xs) [] t = absurd t
eq_list_is (x ∷ xs) (y ∷ ys) t =
    let s = and_split (eqb x y) (eq_list xs ys) t in
    cc (eqb→eq x y s.0, eq_list_is xs ys s.1)

abbrev pub equal_list : (l r : List ℕ) → Test (l ≡ r)
equal_list l r = record { passes = eq_list l r; shows = eq_list_is l r }

-- both, one of two
abbrev pub both : {A B : Type 0} → Test A → Test B → Test (A × B)
both x y = record {
  passes = and x.passes y.passes;
  shows = λ t. let s = and_split x.passes y.passes t in (x.shows s.0, y.shows s.1);
}

abbrev or : Bool → Bool → Bool
or true b = true
or false b = b

pub or_split : (a b : Bool) → T (or a b) → T a ⊎ T b
or_split true b t = inl tt
or_split false b t = inr t

abbrev pub either : {A B : Type 0} → Test A → Test B → Test (A ⊎ B)
either x y = record {
  passes = or x.passes y.passes;
  shows = λ t. elim (or_split x.passes y.passes t) [ inl s ↦ inl (x.shows s) | inr s ↦ inr (y.shows s) ];
}

-- all numbers below n, some number below n
abbrev all : ℕ → (ℕ → Bool) → Bool
all zero f = true
all (suc n) f = and (f n) (all n f)

pub all_at : (n : ℕ) (f : ℕ → Bool) → T (all n f) → (i : ℕ) → i < n → T (f i)
all_at zero f t i h = absurd (omega arith)
all_at (suc n) f t i h =
    let s = and_split (f n) (all n f) t in
    elim (ℕ_discrete i n) [ yes q ↦ rw q s.0 | no nq ↦ all_at n f s.1 i (omega arith) ]

abbrev pub every : {A : ℕ → Type 0} (n : ℕ) → ((i : ℕ) → Test (A i)) → Test ((i : ℕ) → i < n → A i)
every n f = record { passes = all n (λ i. (f i).passes); shows = λ t i hi. (f i).shows (all_at n (λ i. (f i).passes) t i hi) }

abbrev any : ℕ → (ℕ → Bool) → Bool
any zero f = false
any (suc n) f = or (f n) (any n f)

pub any_at : (n : ℕ) (f : ℕ → Bool) → T (any n f) → (i : ℕ) × (i < n) × T (f i)
any_at zero f t = absurd t
any_at (suc n) f t = elim (or_split (f n) (any n f) t) [
  | inl s ↦ (n, omega arith, s)
  | inr s ↦ let i = any_at n f s in (i.0, omega (arith, i.1), i.2)
]

abbrev pub some : {A : ℕ → Type 0} (n : ℕ) → ((i : ℕ) → Test (A i)) → Test ((i : ℕ) × (i < n) × A i)
some n f = record {
  passes = any n (λ i. (f i).passes);
  shows = λ t. let i = any_at n (λ i. (f i).passes) t in (i.0, i.1, (f i.0).shows i.2);
}
