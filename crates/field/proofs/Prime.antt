-- Laws of a prime modulus: every residue but 0 has exactly one inverse, and there are no zero divisors.
use Rattle.std.proofs.Common.{◌≡◌, ℕ, zero, suc, ◌*◌, ◌%◌, ◌<◌, ◌≤◌, ◌≢◌, sym, ap, ◌∙◌, subst, inl, inr, mod-lt, mod-eq_of_lt, mul_assoc, mul_comm, mul-zero, zero-mul, mul-one, le-mul_of_pos_right, arith}
use native.Mathlib.Nat.{mod-mod, zero-mod}
use native.Mathlib.Decide.{ℕ_discrete}
use Rattle.field.specs.Prime.{Divides, Prime}
use Rattle.field.specs.Coprime.{Coprime}
use Rattle.field.specs.Bezout.{Bezout}
use Rattle.field.specs.Inverse.{Inverse}
use Rattle.field.proofs.Residue.{mod_mul, mod_mul_left}
use Rattle.field.proofs.Coprime.{coprime_step, remainder_pos, last_step, step_up, bezout_inverse}

-- a positive number below p is no multiple of p
not_multiple : (p a : ℕ) → 0 < a → a < p → Divides p a → ⊥
not_multiple p a h l (zero, e) = omega (arith, mul-zero p)
not_multiple p a h l (suc q, e) = omega (arith, le-mul_of_pos_right {m = suc q} p (omega arith))

pub prime_coprime : (p : ℕ) → Prime p → (a : ℕ) → 0 < a → a < p → Coprime p a
prime_coprime p pr a h l d u v = elim (pr.only d u) [
  | inl e ↦ e
  | inr e ↦ absurd (not_multiple p a h l (subst (λ (x : ℕ). Divides x a) e v))
]

-- Euclid's steps, as far as a remainder of 1
euclid : (fuel a b : ℕ) → b ≤ fuel → 0 < b → b < a → Coprime a b → (x : ℕ) × (k : ℕ) × Bezout a b x k
euclid zero a b f h l c = absurd (omega arith)
euclid (suc fuel) a b f h l c = elim (ℕ_discrete b 1) [
  | yes e ↦ (1, 0, last_step a b e l)
  | no ne ↦
      let r : a % b < b = mod-lt a h in
      let up = euclid fuel b (a % b) (omega arith) (remainder_pos a b c ne) r (coprime_step a b c) in
      (_, _, step_up a b up.0 up.1 (omega arith) up.2)
]

pub inverse_exists : (p : ℕ) → Prime p → (a : ℕ) → 0 < a → a < p → (b : ℕ) × Inverse p a b
inverse_exists p pr a h l =
    let e = euclid a p a (omega arith) h l (prime_coprime p pr a h l) in
    (e.0, bezout_inverse p a e.0 e.1 pr.above_one e.2)

module _ (p : ℕ) (pr : Prime p) where
  -- a factor that is no multiple of p can be taken away
  pub cancel_mul : (a c q : ℕ) → q < p → q ≢ 0 → (a * q) % p ≡ (c * q) % p → a % p ≡ c % p
  cancel_mul a c q l z h =
      let i = inverse_exists p pr q (omega arith) l in
      let f : (x : ℕ) → ((x * q) % p * i.0) % p ≡ x % p =
      λ x. mod_mul_left p (x * q) i.0 ∙ rw (mul_assoc x q i.0) (mod_mul p x _ ∙ rw (i.1.product, mul-one) (mod-mod x p)) in
      sym (f a) ∙ ap (λ (x : ℕ). (x * i.0) % p) h ∙ f c

  pub no_zero_div : (a c : ℕ) → a < p → (c * a) % p ≡ 0 → a ≢ 0 → c % p ≡ 0
  no_zero_div a c l h z = cancel_mul c 0 a l z (h ∙ sym (rw zero-mul (zero-mod p))) ∙ zero-mod p

pub zero_no_inverse : (p a b : ℕ) → a ≡ 0 → Inverse p a b → ⊥
zero_no_inverse p a b z i = omega (arith, rw (z, zero-mul, zero-mod) at i.product)

-- an inverse is unique, whatever the modulus
pub inverse_unique : (p a b c : ℕ) → Inverse p a b → Inverse p a c → b ≡ c
inverse_unique p a b c u v =
    let f : (x y : ℕ) → Inverse p a x → Inverse p a y → (x * (a * y)) % p ≡ x =
    λ x y i j. mod_mul p x _ ∙ rw (j.product, mul-one) (mod-mod x p ∙ mod-eq_of_lt i.below) in
    sym (f b c u v) ∙ ap (λ (x : ℕ). x % p) (sym (mul_assoc b a c) ∙ mul_comm (b * a) c ∙ ap (λ (x : ℕ). c * x) (mul_comm b a)) ∙ f c b v u
