-- Trial division: what has been tried of a number that is no multiple of 2, 3 or 5, one step and both ends; and the multiples of a prime.
use Rattle.std.proofs.Common.{◌≡◌, ℕ, zero, suc, ◌+◌, ◌-◌, ◌*◌, ◌/◌, ◌%◌, ◌<◌, ◌≤◌, true, eqb, ◌≢◌, ◌⊎◌, ◌↔◌, [], ◌∷◌, get_or, sym, refl, ◌∙◌, inl, inr, mul_assoc, mul_comm, mul-le-mul, mul-zero, zero-add, zero-mul, mul-one, arith, eq-eqb, eqb-true}
use mathlib.Core.Logic.Dec
use native.Mathlib.Nat.{mod-add-div, mul-mod_right}
use native.Mathlib.Decide.{ℕ_discrete, dec_lt}
use Rattle.field.specs.Prime.{Divides, Prime}
use Rattle.field.proofs.Truth.{computed, dec_below}

pub mod_divides : (d n : ℕ) → n % d ≡ 0 → Divides d n
mod_divides d n e = (n / d, rw (e, zero-add) at (mod-add-div n d))

pub divides_mod : (d n : ℕ) → Divides d n → n % d ≡ 0
divides_mod d n (q, e) = rw (← e) (mul-mod_right d q)

-- no number from 2 to below d divides n
abbrev pub NoneBelow : ℕ → ℕ → Type 0
NoneBelow n d = (k : ℕ) → 1 < k → k < d → Divides k n → ⊥

-- a divisor other than 1 and n
pub composite : (n d : ℕ) → 1 < d → d < n → n % d ≡ 0 → ¬ (Prime n)
composite n d u l e pr = elim (pr.only d (mod_divides d n e)) [
  | inl i ↦ omega arith
  | inr i ↦ omega arith
]

-- k is no multiple of 2, 3 or 5
abbrev pub Rest : ℕ → Type 0
Rest k = (k % 2 ≢ 0) × ((k % 3 ≢ 0) × (k % 5 ≢ 0))

-- what m does not divide, no multiple of m divides
no_multiple : (m n k : ℕ) → n % m ≢ 0 → Divides k n → k % m ≢ 0
no_multiple m n k nm (q, i) z =
    let h = mod_divides m k z in
    nm (divides_mod m n (h.0 * q, sym (mul_assoc m h.0 q) ∙ rw h.1 i))

rest_divisor : (n k : ℕ) → Rest n → Divides k n → Rest k
rest_divisor n k r h = (no_multiple 2 n k r.0 h, (no_multiple 3 n k r.1.0 h, no_multiple 5 n k r.1.1 h))

-- there is no such number among the m from a on
abbrev NoRest : ℕ → ℕ → Type 0
NoRest a m = (j : ℕ) → j < m → ¬ (Rest (a + j))

abbrev dec_no_rest : (a m : ℕ) → Dec (NoRest a m)
dec_no_rest a = dec_below (λ j. Dec.not (Dec.and (none 2 j) (Dec.and (none 3 j) (none 5 j))))
  where
    none : (q j : ℕ) → Dec ((a + j) % q ≢ 0)
    none q j = Dec.not (ℕ_discrete ((a + j) % q) 0)

among : (a m k : ℕ) → NoRest a m → a ≤ k → k < a + m → ¬ (Rest k)
among a m k h u v r = h (k - a) (omega arith) (let e : a + (k - a) ≡ k = omega arith in rw e r)

-- it is so again after 30
shifted : (a b m : ℕ) → a % 30 ≡ b % 30 → NoRest a m → NoRest b m
shifted a b m e h j l r = h j l (omega arith, (omega arith, omega arith))

below_seven : NoRest 2 5
unfolding Dec.and Dec.not ℕ_discrete
below_seven = computed (dec_no_rest 2 5) tt

-- the eight such numbers from 7 on, and the table of steps between them
abbrev place : ℕ → ℕ
place i = get_or (7 ∷ 11 ∷ 13 ∷ 17 ∷ 19 ∷ 23 ∷ 29 ∷ 31 ∷ []) i 0

abbrev pub step : ℕ → ℕ
step i = get_or (4 ∷ 2 ∷ 4 ∷ 2 ∷ 4 ∷ 6 ∷ 2 ∷ 6 ∷ []) i 0

-- s leads from the place i to the next one, over no such number
abbrev Step : ℕ → ℕ → Type 0
Step i s = ((0 < s) × (s < 7)) × (((place i + s) % 30 ≡ place ((i + 1) % 8) % 30) × NoRest (place i + 1) (s - 1))

abbrev dec_step : (i s : ℕ) → Dec (Step i s)
dec_step i s = Dec.and (Dec.and (dec_lt 0 s) (dec_lt s 7)) (Dec.and (ℕ_discrete _ _) (dec_no_rest (place i + 1) (s - 1)))

-- the table's rule: one test of all its entries
step_rule : (i : ℕ) → i < 8 → Step i (step i)
unfolding Dec.and Dec.not dec_lt ℕ_discrete
step_rule = computed (dec_below (λ i. dec_step i (step i)) 8) tt

-- d is the next to try, at the place i
pub record Tried (n d i : ℕ) : Type 0 where
  pub from_seven : 7 ≤ d
  pub at_most : d ≤ n
  pub turn : i < 8
  pub at_place : d % 30 ≡ place i % 30
  pub none : NoneBelow n d

pub tried_none : (n : ℕ) → 1 < n → Rest n → Tried n 7 0
tried_none n u rest = record {
  from_seven = omega arith;
  at_most = elim (dec_lt n 7) [ yes l ↦ absurd (none n u l (1, mul-one n)) | no l ↦ omega arith ];
  turn = omega arith;
  at_place = refl;
  none = none;
}
  where
    none : NoneBelow n 7
    none k v l h = among 2 5 k below_seven v l (rest_divisor n k rest h)

module _ (n d i : ℕ) (t : Tried n d i) (root : 7 * d ≤ n) where
  -- one step: d is no divisor, and what is stepped over is none either
  pub tried_more : Rest n → n % d ≢ 0 → Tried n (d + step i) ((i + 1) % 8)
  tried_more rest nd =
      let s = step_rule i t.turn in
      record {
        from_seven = omega arith;
        at_most = omega arith;
        turn = omega arith;
        at_place = omega arith;
        none = λ k u v h. elim (dec_lt k d) [
          | yes l ↦ t.none k u l h
          | no l ↦ elim (ℕ_discrete k d) [
            | yes e ↦ nd (divides_mod d n (rw e at h))
            | no ne ↦ among (d + 1) (step i - 1) k (shifted (place i + 1) (d + 1) _ (omega arith) s.1.1) (omega arith) (omega arith) (rest_divisor n k rest h)
          ]
        ];
      }

  pub step_less : n - (d + step i) < n - d
  step_less = omega (arith, step_rule i t.turn)

-- a number from 7 to the square root is well below n
pub root_below : (n d : ℕ) → 7 ≤ d → d * d ≤ n → 7 * d ≤ n
root_below n d l h = omega (arith, mul-le-mul {n₁ = 7} {m₁ = d} {n₂ = d} {m₂ = d} (omega arith) (omega arith))

-- of two factors of n one is at most the square root
pub past_root : (n d : ℕ) → 1 < d → 1 < n → n < d * d → NoneBelow n d → Prime n
past_root n d one<d u h none = record { above_one = u; only = λ e v. go e v.0 v.1 }
  where
    go : (e q : ℕ) → e * q ≡ n → (e ≡ 1) ⊎ (e ≡ n)
    go e zero m = absurd (omega (arith, mul-zero e))
    go zero (suc q) m = absurd (omega (arith, zero-mul (suc q)))
    go (suc zero) (suc q) m = inl refl
    go (suc (suc e)) (suc zero) m = inr (sym (mul-one _) ∙ m)
    go (suc (suc e)) (suc (suc q)) m = elim (dec_lt (suc (suc e)) d) [
      | yes l ↦ absurd (none _ (omega arith) l (_, m))
      | no l ↦ elim (dec_lt (suc (suc q)) d) [
        | yes l' ↦ absurd (none _ (omega arith) l' (_, mul_comm (suc (suc q)) (suc (suc e)) ∙ m))
        | no l' ↦ absurd (omega (arith, mul-le-mul {n₁ = d} {m₁ = d} {n₂ = suc (suc e)} {m₂ = suc (suc q)} (omega arith) (omega arith)))
      ]
    ]

-- a multiple of a prime is prime exactly where it is that prime
pub multiple_prime : (q n : ℕ) → Prime q → n % q ≡ 0 → (eqb n q ≡ true) ↔ Prime n
multiple_prime q n pq e = (λ h. rw (eqb-true n q h) pq, λ pr. eq-eqb n q (only_q pr))
  where
    only_q : Prime n → n ≡ q
    only_q pr = elim (pr.only q (mod_divides q n e)) [
      | inl i ↦ absurd (omega (arith, pq.above_one))
      | inr i ↦ sym i
    ]
