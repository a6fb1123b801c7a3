-- An order gives at most one number, and none where no test holds: two outcomes of one call are both answers or both the same refusal.
use Rattle.std.proofs.Common.{◌≡◌, ℕ, ◌⊎◌, List, [], ◌∷◌, ◌++◌, sym, ◌∙◌, inl, inr, arith}
use Rattle.field.specs.Refusal.{Order, NoTest, First, Outcome}
use Rattle.field.specs.Answer.{result, refusal}

pub first_unique : (o : Order) (j k : ℕ) → First o j → First o k → j ≡ k
unfolding First
first_unique [] j k a b = absurd a
first_unique (l ∷ o) j k (inl a) (inl b) = sym a.1 ∙ b.1
first_unique (l ∷ o) j k (inl a) (inr b) = absurd (b.0 a.0)
first_unique (l ∷ o) j k (inr a) (inl b) = absurd (a.0 b.0)
first_unique (l ∷ o) j k (inr a) (inr b) = first_unique o j k a.1 b.1

pub first_or_none : (o : Order) (k : ℕ) → First o k → NoTest o → ⊥
unfolding First NoTest
first_or_none [] k a b = a
first_or_none (l ∷ o) k (inl a) b = b.0 a.0
first_or_none (l ∷ o) k (inr a) b = first_or_none o k a.1 b.1

-- tests in a row
pub none_both : (o o' : Order) → NoTest o → NoTest o' → NoTest (o ++ o')
unfolding NoTest
none_both [] o' a b = b
none_both (l ∷ o) o' a b = (a.0, none_both o o' a.1 b)

pub none_left : (o o' : Order) → NoTest (o ++ o') → NoTest o
unfolding NoTest
none_left [] o' a = tt
none_left (l ∷ o) o' a = (a.0, none_left o o' a.1)

pub none_right : (o o' : Order) → NoTest (o ++ o') → NoTest o'
unfolding NoTest
none_right [] o' a = a
none_right (l ∷ o) o' a = none_right o o' a.1

pub first_left : (o o' : Order) (k : ℕ) → First o k → First (o ++ o') k
unfolding First
first_left [] o' k a = absurd a
first_left (l ∷ o) o' k (inl a) = inl a
first_left (l ∷ o) o' k (inr a) = inr (a.0, first_left o o' k a.1)

pub first_right : (o o' : Order) (k : ℕ) → NoTest o → First o' k → First (o ++ o') k
unfolding First NoTest
first_right [] o' k a b = b
first_right (l ∷ o) o' k a b = inr (a.0, first_right o o' k a.1 b)

-- an outcome after tests none of which holds
pub outcome_after : (o o' : Order) (R : ℕ → Type 0) (A : Type 0) → NoTest o → Outcome o' R A → Outcome (o ++ o') R A
unfolding Outcome
outcome_after o o' R A n (inl a) = inl (none_both o o' n a.0, a.1)
outcome_after o o' R A n (inr b) = inr (b.0, first_right o o' b.0 n b.1, b.2)

-- an outcome where no test holds is an answer
pub answer : (o : Order) (R : ℕ → Type 0) (A : Type 0) → Outcome o R A → NoTest o → A
unfolding Outcome
answer o R A (inl a) n = a.1
answer o R A (inr b) n = absurd (first_or_none o b.0 b.1 n)

-- two outcomes of one order
pub same_outcome : (o : Order) (R R' : ℕ → Type 0) (A A' : Type 0) → Outcome o R A → Outcome o R' A'
    → (A × A') ⊎ ((k : ℕ) × R k × R' k)
unfolding Outcome
same_outcome o R R' A A' (inl a) (inl b) = inl (a.1, b.1)
same_outcome o R R' A A' (inl a) (inr b) = absurd (first_or_none o b.0 b.1 a.0)
same_outcome o R R' A A' (inr a) (inl b) = absurd (first_or_none o a.0 a.1 b.0)
same_outcome o R R' A A' (inr a) (inr b) =
    inr (a.0, a.2, rw (first_unique o a.0 b.0 a.1 b.1) b.2)

-- a refusal is no result
pub no_result_refused : {ws : List ℕ} {k : ℕ} → ¬ (result ws ≡ refusal k)
no_result_refused e = let z : ◌≡◌ {A = ℕ} 0 1 = cc in omega arith

-- an answer that is no refusal: the call was admitted
pub admitted : (o : Order) (R : ℕ → Type 0) (A : Type 0) (ws : List ℕ) → ((k : ℕ) → R k → result ws ≡ refusal k) → Outcome o R A → NoTest o × A
unfolding Outcome
admitted o R A ws says (inl a) = a
admitted o R A ws says (inr b) = absurd (no_result_refused (says b.0 b.2))

-- an answer keeps that no test holds
pub keep : (o : Order) (R : ℕ → Type 0) (A : Type 0) → Outcome o R A → Outcome o R (NoTest o × A)
unfolding Outcome
keep o R A (inl a) = inl (a.0, a)
keep o R A (inr b) = inr b
