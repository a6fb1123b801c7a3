-- Weights: position (i, k), entry i and exponent k, has the weight (k + b_i) * n + i. Comparing weights is comparing
-- first k + b_i and then i; with b_i = B - d_i that is the shifted degree and then the index (see Shift).
-- The nonzero position of largest weight leads the vector.
--   weight-*            the order of the positions
--   top, no_lead        each bound is reached by a leading position, or can be lowered
use mathlib.Core.Path.{◌≡◌, refl, ap, sym, ◌∙◌}
use mathlib.Core.Logic.{◌≢◌, ◌⊎◌, inl, inr}
use Prim.Native.Nat.{ℕ, zero, suc, ◌+◌, ◌*◌, ◌-◌, ◌%◌, ◌/◌, ◌≤◌, ◌<◌}
use native.Mathlib.Nat.{zero-mul, suc-mul, mod-add-div', mod-eq_of_lt, mod-lt, zero-add, mul-le-mul_right, mul-add-mod_self_right, mul-add-div_right, div-eq_of_lt}
use native.Mathlib.Decide.{ℕ_discrete, dec_le, dec_lt}
use native.Mathlib.Omega.{arith}
use Rattle.relation.specs.Sum.{sum_to}
use Rattle.relation.specs.Vector.{Vect, IsVec}
use Rattle.relation.specs.Weight.{weight, BelowWeight, LeadsAt}
use Rattle.relation.proofs.Sum.{sum_ge}
use Rattle.relation.specs.Operations.{times_x}
use Rattle.relation.proofs.Vector.{times_x_power}

pub weight_suc : (n : ℕ) (b : ℕ → ℕ) (i k : ℕ) → weight n b i (suc k) ≡ weight n b i k + n
unfolding weight
weight_suc n b i k = let e : suc k + b i ≡ suc (k + b i) = omega arith in rw (e, suc-mul) (omega arith)

pub weight_add : (n : ℕ) (b : ℕ → ℕ) (i k t : ℕ) → weight n b i (t + k) ≡ weight n b i k + t * n
weight_add n b i k zero = rw (zero-add, zero-mul) (omega arith)
weight_add n b i k (suc t) =
    let e : suc t + k ≡ suc (t + k) = omega arith in
    rw (e, weight_suc, weight_add n b i k t, suc-mul) (omega arith)

pub weight_le : (n : ℕ) (b : ℕ → ℕ) (i k l : ℕ) → k ≤ l → weight n b i k ≤ weight n b i l
weight_le n b i k l h = let e : l ≡ (l - k) + k = omega arith in rw e (rw weight_add (omega arith))

pub weight_lt : (n : ℕ) (b : ℕ → ℕ) (i k l : ℕ) → 0 < n → k < l → weight n b i k < weight n b i l
weight_lt n b i k l hn h =
    let m : weight n b i (suc k) ≤ weight n b i l = weight_le n b i (suc k) l h in
    omega (arith, weight_suc n b i k)

pub weight_entry : (n : ℕ) (b : ℕ → ℕ) (i k : ℕ) → i < n → weight n b i k % n ≡ i
unfolding weight
weight_entry n b i k h = mul-add-mod_self_right (k + b i) n i ∙ mod-eq_of_lt h

pub weight_quotient : (n : ℕ) (b : ℕ → ℕ) (i k : ℕ) → i < n → weight n b i k / n ≡ k + b i
unfolding weight
weight_quotient n b i k h = mul-add-div_right (omega arith) (k + b i) i ∙ rw (div-eq_of_lt h) (omega arith)

pub weight_inj : (n : ℕ) (b : ℕ → ℕ) (i k j l : ℕ) → i < n → j < n → weight n b i k ≡ weight n b j l → (i ≡ j) × (k ≡ l)
weight_inj n b i k j l hi hj e =
    let f : i ≡ j = sym (weight_entry n b i k hi) ∙ rw e (weight_entry n b j l hj) in
    let g : k + b i ≡ l + b j = sym (weight_quotient n b i k hi) ∙ rw e (weight_quotient n b j l hj) in
    let b' : b i ≡ b j = ap b f in
    (f, omega arith)

-- the position of a weight, where there is one
pub weight_at : (n : ℕ) (b : ℕ → ℕ) (W : ℕ) → 0 < n → b (W % n) ≤ W / n → weight n b (W % n) (W / n - b (W % n)) ≡ W
unfolding weight
weight_at n b W hn h =
    let e : W / n - b (W % n) + b (W % n) ≡ W / n = omega arith in
    rw e (omega (arith, mod-add-div' W n))

pub weight_none : (n : ℕ) (b : ℕ → ℕ) (W i k : ℕ) → i < n → W / n < b (W % n) → weight n b i k ≢ W
weight_none n b W i k hi h e =
    let f : W % n ≡ i = rw (← e) (weight_entry n b i k hi) in
    let g : W / n ≡ k + b i = rw (← e) (weight_quotient n b i k hi) in
    let b' : b (W % n) ≡ b i = ap b f in
    omega arith

-- comparing weights is comparing k + b i and then i
pub weight→order : (n : ℕ) (b : ℕ → ℕ) (i e j k : ℕ) → i < n → j < n → weight n b j k ≤ weight n b i e
    → (k + b j ≤ e + b i) × (k + b j ≡ e + b i → j ≤ i)
unfolding weight
weight→order n b i e j k hi hj h = (elim (dec_le (k + b j) (e + b i)) [ yes g ↦ g | no g ↦ absurd (bad (omega arith)) ], λ q. tie (ap (λ (x : ℕ). x * n) q))
  where
    bad : e + b i < k + b j → ⊥
    bad g =
        let m : suc (e + b i) * n ≤ (k + b j) * n = mul-le-mul_right n g in
        omega (arith, suc-mul (e + b i) n)

    tie : (k + b j) * n ≡ (e + b i) * n → j ≤ i
    tie q = omega arith

pub order→weight : (n : ℕ) (b : ℕ → ℕ) (i e j k : ℕ) → i < n → j < n → k + b j ≤ e + b i → (k + b j ≡ e + b i → j ≤ i)
    → weight n b j k ≤ weight n b i e
unfolding weight
order→weight n b i e j k hi hj h t = elim (ℕ_discrete (k + b j) (e + b i)) [
  | yes q ↦ let m : j ≤ i = t q in rw q (omega arith)
  | no nq ↦
      let m : suc (k + b j) * n ≤ (e + b i) * n = mul-le-mul_right n (omega arith) in
      omega (arith, suc-mul (k + b j) n)
]

-- bounds
pub below_times_x : (n : ℕ) (b : ℕ → ℕ) (W : ℕ) (P : Vect) → BelowWeight n b W P → BelowWeight n b (W + n) (times_x P)
unfolding times_x
below_times_x n b W P h i zero hi l = refl
below_times_x n b W P h i (suc k) hi l = h i k hi (omega (arith, weight_suc n b i k))

pub below_times_x_power : (n : ℕ) (b : ℕ → ℕ) (W t : ℕ) (P : Vect) → BelowWeight n b W P → BelowWeight n b (W + t * n) (times_x_power t P)
unfolding times_x_power
below_times_x_power n b W zero P h i k hi l = h i k hi (omega (arith, zero-mul n))
below_times_x_power n b W (suc t) P h i k hi l = below_times_x n b (W + t * n) (times_x_power t P) (below_times_x_power n b W t P h) i k hi (omega (arith, suc-mul t n))

pub vec_below : (p n : ℕ) (b : ℕ → ℕ) (P : Vect) → (h : IsVec p n P) → BelowWeight n b ((h.bound + sum_to n b) * n + n) P
unfolding weight
vec_below p n b P h i k hi l = h.high i k (elim (dec_le h.bound k) [ yes g ↦ g | no g ↦ absurd (bad (omega arith)) ])
  where
    bad : k < h.bound → ⊥
    bad g =
        let m : k + b i ≤ h.bound + sum_to n b = omega (arith, sum_ge n b i hi) in
        let q : (k + b i) * n ≤ (h.bound + sum_to n b) * n = mul-le-mul_right n m in
        omega arith

-- the top of a bound: there is nothing there, or it leads
unfoldable pub Top : ℕ → (ℕ → ℕ) → ℕ → Vect → Type 0
Top n b W P = (i : ℕ) × (k : ℕ) × (i < n) × (weight n b i k ≡ W) × LeadsAt n b P i k

pub top : (n : ℕ) (b : ℕ → ℕ) (W : ℕ) (P : Vect) → BelowWeight n b (suc W) P → BelowWeight n b W P ⊎ Top n b W P
unfolding Top
top n b W P h = elim (dec_lt 0 n) [
  | no z ↦ inl (λ i k hi l. absurd (omega arith))
  | yes hn ↦ elim (dec_le (b (W % n)) (W / n)) [
    | no z ↦ inl (λ i k hi l. h i k hi (omega (arith, weight_none n b W i k hi (omega arith))))
    | yes g ↦ found (W % n) (W / n - b (W % n)) (mod-lt W hn) (weight_at n b W hn g)
  ]
]
  where
    found : (i k : ℕ) → i < n → weight n b i k ≡ W → BelowWeight n b W P ⊎ Top n b W P
    found i k hi e = elim (ℕ_discrete (P i k) 0) [
      | yes z ↦ inl (λ j l hj g. elim (ℕ_discrete (weight n b j l) W) [
        | yes q ↦ let u = weight_inj n b j l i k hj hi (q ∙ sym e) in rw (u.0, u.1) z
        | no nq ↦ h j l hj (omega arith)
      ])
      | no z ↦ inr (i, k, hi, e, record { nonzero = z; above = rw e h })
    ]

-- a vector with no leading position is zero
pub no_lead : (n : ℕ) (b : ℕ → ℕ) (W : ℕ) (P : Vect) → BelowWeight n b W P → ((i k : ℕ) → i < n → ¬ LeadsAt n b P i k)
    → (i k : ℕ) → i < n → P i k ≡ 0
unfolding Top
no_lead n b zero P h z i k hi = h i k hi (omega arith)
no_lead n b (suc W) P h z i k hi = elim (top n b W P h) [
  | inl g ↦ no_lead n b W P g z i k hi
  | inr t ↦ absurd (z t.0 t.1 t.2 t.4)
]

-- a vector that is not zero has one
pub lead_exists : (n : ℕ) (b : ℕ → ℕ) (W : ℕ) (P : Vect) → BelowWeight n b W P → (i k : ℕ) → i < n → P i k ≢ 0 → (j : ℕ) × (e : ℕ) × (j < n) × LeadsAt n b P j e
unfolding Top
lead_exists n b zero P h i k hi nz = absurd (nz (h i k hi (omega arith)))
lead_exists n b (suc W) P h i k hi nz = elim (top n b W P h) [
  | inl g ↦ lead_exists n b W P g i k hi nz
  | inr t ↦ (t.0, t.1, t.2, t.4)
]
