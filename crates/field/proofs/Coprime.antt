-- Euclid's steps. For coprime a and b < a, numbers x and k for b and r, r = a % b, give those for a and b.
--   coprime_step, remainder_pos   divisor and remainder stay coprime, and the remainder is not 0
--   last_step                     where the steps end
--   step_below, step_up           the numbers one step up
--   bezout_inverse                the first one is the inverse
use Rattle.std.proofs.Common.{◌≡◌, ℕ, zero, suc, ◌+◌, ◌-◌, ◌*◌, ◌/◌, ◌%◌, ◌<◌, ◌≤◌, ◌≢◌, sym, refl, ap, ◌∙◌, mod-eq_of_lt, mul_assoc, mul_comm, add-mul, mul-le-mul_left, mul-zero, zero-add, zero-mul, mul-one, mul-add, le-mul_of_pos_right, arith}
use native.Mathlib.Nat.{mod-add-div, add-mul-mod_self_right, mul-sub}
use native.Mathlib.Decide.{dec_lt}
use Rattle.field.specs.Coprime.{Coprime}
use Rattle.field.specs.Bezout.{Bezout}
use Rattle.field.specs.Inverse.{Inverse}

pub coprime_step : (a b : ℕ) → Coprime a b → Coprime b (a % b)
coprime_step a b c d u v = c d (
  v.0 + u.0 * (a / b),
  mul-add d v.0 (u.0 * (a / b)) ∙ rw (← mul_assoc, u.1, v.1) (mod-add-div a b),
) u

pub remainder_pos : (a b : ℕ) → Coprime a b → b ≢ 1 → 0 < a % b
remainder_pos a b c ne = go (a % b) refl
  where
    go : (r : ℕ) → a % b ≡ r → 0 < r
    go zero e = absurd (ne (c b (a / b, sym (rw e at (sym (mod-add-div a b)) ∙ zero-add _)) (1, mul-one b)))
    go (suc r) e = omega arith

-- where the steps end
pub last_step : (a b : ℕ) → b ≡ 1 → b < a → Bezout a b 1 0
last_step a b e l = record { x_below = omega arith; k_below = omega arith; product = omega (arith, mul-one b, zero-mul a) }

-- one step up: b * (q * x + k) = a * x - 1, and both sides are taken from b * a
module _ (a b x k : ℕ) (one<a : 1 < a) (e : Bezout b (a % b) x k) where
  step_sum : b * (a / b * x + k) + 1 ≡ a * x
  step_sum =
      let v : a * x ≡ a % b * x + b * (a / b * x) = ap (λ (y : ℕ). y * x) (sym (mod-add-div a b)) ∙ add-mul _ _ x ∙ rw (mul_assoc b (a / b) x) in
      omega (arith, mul-add b (a / b * x) k, mul_comm k b)

  pub step_below : a / b * x + k < a
  step_below = elim (dec_lt (a / b * x + k) a) [
    | yes h ↦ h
    | no h ↦
        let m : b * a ≤ b * (a / b * x + k) = mul-le-mul_left b (omega arith) in
        let n : a * x ≤ a * b = mul-le-mul_left a (omega arith) in
        absurd (omega (arith, step_sum, mul_comm a b))
  ]

  step_pos : (0 < x) × (0 < a / b * x + k)
  step_pos = go (a / b * x + k) x step_sum
    where
      go : (y z : ℕ) → b * y + 1 ≡ a * z → (0 < z) × (0 < y)
      go y zero e = omega (arith, mul-zero a)
      go zero (suc z) e = omega (arith, mul-zero b, le-mul_of_pos_right {m = suc z} a (omega arith))
      go (suc y) (suc z) e = omega arith

  pub step_up : Bezout a b (a - (a / b * x + k)) (b - x)
  step_up =
      let y : ℕ = a / b * x + k in
      record {
        x_below = omega (arith, step_pos);
        k_below = omega (arith, step_pos);
        product = omega (arith, step_sum, mul-sub b a y, mul-sub a b x, mul_comm a b, mul_comm (b - x) a, mul-le-mul_left {m = x} {n = b} a (omega arith));
      }

pub bezout_inverse : (a b x k : ℕ) → 1 < a → Bezout a b x k → Inverse a b x
bezout_inverse a b x k one<a e = record { below = e.x_below; product = rw e.product (add-mul-mod_self_right 1 k a ∙ mod-eq_of_lt one<a) }
