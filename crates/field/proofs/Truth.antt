-- A test that answers true exactly where a statement holds, and what a test that does not hold says; statements that are decided by computing.
use Rattle.std.proofs.Common.{◌≡◌, ℕ, zero, suc, ◌<◌, Bool, true, false, not, ◌&&◌, ◌≢◌, ◌⊎◌, ◌↔◌, sym, refl, ◌∙◌, inl, inr, ⊎_elim, arith}
use mathlib.Core.Bool.{false≢true}
use native.Mathlib.Decide.{ℕ_discrete}

pub shown : {A : Type 0} → A → (true ≡ true) ↔ A
shown a = (λ e. a, λ x. refl)

pub refuted : {A : Type 0} → ¬ A → (false ≡ true) ↔ A
refuted n = (λ e. absurd (false≢true e), λ a. absurd (n a))

pub both : {A B : Type 0} (t u : Bool) → (t ≡ true) ↔ A → (u ≡ true) ↔ B → ((t && u) ≡ true) ↔ (A × B)
both true u i j = (λ e. (i.0 refl, j.0 e), λ h. j.1 h.1)
both false u i j = refuted (λ h. false≢true (i.1 h.0))

pub negated : {A : Type 0} (t : Bool) → (t ≡ true) ↔ A → (not t ≡ true) ↔ (¬ A)
negated true i = refuted (λ n. n (i.0 refl))
negated false i = shown (λ a. false≢true (i.1 a))

-- what a test that failed says
pub fails : {A : Type 0} (t : Bool) → (t ≡ true) ↔ A → t ≡ false → ¬ A
fails t i e a = false≢true (sym e ∙ i.1 a)

-- numbers that do not differ
pub same_of : (a b : ℕ) → ¬ (a ≢ b) → a ≡ b
same_of a b h = elim (ℕ_discrete a b) [ yes e ↦ e | no ne ↦ absurd (h ne) ]

pub exact : {a b : ℕ} → a ≡ b → ¬ (a ≢ b)
exact e n = n e

-- none of two tests
pub neither : {A B : Type 0} → ¬ (A ⊎ B) → (¬ A) × (¬ B)
neither h = ((λ a. h (inl a)), λ b. h (inr b))

pub no_either : {A B : Type 0} → ¬ A → ¬ B → ¬ (A ⊎ B)
no_either a b = ⊎_elim a b

-- a decision that computes to yes
abbrev pub IsYes : {A : Type 0} → Dec A → Type 0
IsYes (yes a) = Unit {0}
IsYes (no n) = ⊥

pub computed : {A : Type 0} (d : Dec A) → IsYes d → A
computed (yes a) y = a
computed (no n) y = absurd y

-- whether a statement holds of each number below m
abbrev pub dec_below : {A : ℕ → Type 0} → ((k : ℕ) → Dec (A k)) → (m : ℕ) → Dec ((k : ℕ) → k < m → A k)
dec_below d zero = yes (λ k l. absurd (omega arith))
dec_below {A} d (suc m) = go (d m) (dec_below d m)
  where
    go : Dec (A m) → Dec ((k : ℕ) → k < m → A k) → Dec ((k : ℕ) → k < suc m → A k)
    go (yes a) (yes h) = yes (λ k l. elim (ℕ_discrete k m) [ yes e ↦ rw e a | no ne ↦ h k (omega arith) ])
    go (yes a) (no n) = no (λ h. n (λ k l. h k (omega arith)))
    go (no n) e = no (λ h. n (h m (omega arith)))
