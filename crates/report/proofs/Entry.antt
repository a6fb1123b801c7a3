-- Words without high zeros: what is left stands in front, and ends with the last word that is not zero.
use mathlib.Core.Path.{◌≡◌, refl, ap, ◌∙◌}
use mathlib.Core.List.{List, [], ◌∷◌}
use Prim.Native.Nat.{ℕ, zero, suc, ◌+◌, ◌≤◌, ◌<◌}
use native.Mathlib.Omega.{arith}
use Rattle.std.specs.Prelude.{Option, None, Some, MatchOption}
use lib.ListN.{length, take, get_or, length-take}
use Rattle.report.specs.Entry.{keep, trim, or_zero, shown, degree}

keep_cons : (c : ℕ) (l : List ℕ) → 0 < length l → keep c l ≡ c ∷ l
unfolding keep
keep_cons c [] h = absurd (omega arith)
keep_cons c (x ∷ l) h = refl

positive : (c : ℕ) → (c ≡ 0 → ⊥) → 0 < c
positive zero f = absurd (f refl)
positive (suc c) f = omega arith

front : (c : ℕ) (l t : List ℕ) → t ≡ take (length t) l → keep c t ≡ take (length (keep c t)) (c ∷ l)
unfolding keep
front zero l [] e = refl
front (suc c) l [] e = refl
front c l (x ∷ t) e = ap (λ (r : List ℕ). c ∷ r) e

-- what is left stands in front
pub trim_front : (l : List ℕ) → trim l ≡ take (length (trim l)) l
unfolding trim
trim_front [] = refl
trim_front (c ∷ l) = front c l (trim l) (trim_front l)

pub trim_short : (l : List ℕ) → length (trim l) ≤ length l
trim_short l = omega (arith, ap length (trim_front l), length-take (length (trim l)) l)

pub shown_zero : (l : List ℕ) → length (trim l) ≡ 0 → shown l ≡ 0 ∷ []
unfolding shown or_zero
shown_zero l e = go (trim l) e
  where
    go : (t : List ℕ) → length t ≡ 0 → or_zero t ≡ 0 ∷ []
    go [] z = refl
    go (c ∷ t) z = absurd (omega arith)

pub shown_front : (l : List ℕ) → (length (trim l) ≡ 0 → ⊥) → shown l ≡ take (length (trim l)) l
unfolding shown or_zero
shown_front l e = go (trim l) e ∙ trim_front l
  where
    go : (t : List ℕ) → (length t ≡ 0 → ⊥) → or_zero t ≡ t
    go [] z = absurd (z refl)
    go (c ∷ t) z = refl

pub trim_zeros : (l : List ℕ) → ((t : ℕ) → t < length l → get_or l t 0 ≡ 0) → length (trim l) ≡ 0
unfolding trim keep
trim_zeros [] h = refl
trim_zeros (c ∷ l) h = go (trim l) (trim_zeros l (λ t k. h (suc t) (omega arith)))
  where
    go : (t : List ℕ) → length t ≡ 0 → length (keep c t) ≡ 0
    go [] z = rw (h 0 (omega arith))
    go (d ∷ t) z = absurd (omega arith)

-- the words up to the last that is not zero are one more than its place
pub trim_length : (l : List ℕ) (e : ℕ) → e < length l → (get_or l e 0 ≡ 0 → ⊥) → ((t : ℕ) → e < t → t < length l → get_or l t 0 ≡ 0) → length (trim l) ≡ e + 1
unfolding trim keep
trim_length [] e within last above = absurd (omega arith)
trim_length (c ∷ l) zero within last above = go (trim l) (trim_zeros l (λ t k. above (suc t) (omega arith) (omega arith)))
  where
    go : (t : List ℕ) → length t ≡ 0 → length (keep c t) ≡ 1
    go [] z = one c (positive c last)
      where
        one : (c : ℕ) → 0 < c → length (keep c []) ≡ 1
        one zero h = absurd (omega arith)
        one (suc c) h = refl
    go (d ∷ t) z = absurd (omega arith)
trim_length (c ∷ l) (suc e) within last above =
    let n : length (trim l) ≡ e + 1 = trim_length l e (omega arith) last (λ t h k. above (suc t) (omega arith) (omega arith)) in
    omega (arith, ap length (keep_cons c (trim l) (omega arith)))

-- the place of the last word that is not zero, if there is one
pub last_place : (l : List ℕ) (r : Option ℕ)
    → MatchOption r ((t : ℕ) → t < length l → get_or l t 0 ≡ 0) (λ e. (e < length l) × (get_or l e 0 ≡ 0 → ⊥) × ((t : ℕ) → e < t → t < length l → get_or l t 0 ≡ 0))
    → MatchOption r (length (trim l) ≡ 0) (λ e. (e < length l) × (length (trim l) ≡ e + 1))
last_place l None h = trim_zeros l h
last_place l (Some e) h = (h.0, trim_length l e h.0 h.1 h.2)

within : (l : List ℕ) (e : ℕ) → (get_or l e 0 ≡ 0 → ⊥) → e < length l
within [] e f = absurd (f refl)
within (c ∷ l) zero f = omega arith
within (c ∷ l) (suc e) f = omega (arith, within l e f)

-- the printed degree is the place of the last word that is not zero
pub degree_is : (l : List ℕ) (e : ℕ) → (get_or l e 0 ≡ 0 → ⊥) → ((t : ℕ) → e < t → get_or l t 0 ≡ 0) → degree l ≡ e
unfolding degree
degree_is l e last above = omega (arith, trim_length l e (within l e last) last (λ t h _. above t h))
