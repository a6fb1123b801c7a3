-- Products with a fixed factor c, over the width w: for v = c * 2^w / p and q = v * y / 2^w, q * p is at most c * y, and less than 2p is left.
--   low, high       the estimate q
--   quotient_fits   v is a word
--   taken           below 2p, p is taken away at most once
--   left_over       multiples of p that were taken away do not matter
use Rattle.std.proofs.Common.{◌≡◌, ℕ, ◌+◌, ◌-◌, ◌*◌, ◌/◌, ◌%◌, ◌^◌, ◌<◌, ◌≤◌, sym, ◌∙◌, mul-le-mul_right, mod-eq_of_lt, mul_comm, div-lt_iff_lt-mul, add-mul, lt_of_mul-lt-mul_right, mul-le-mul_left, mul-lt-mul_of_pos_right, mul_right_comm, div-mul-le_self, le_of_mul-le-mul_right, arith, pow_pos}
use native.Mathlib.Nat.{lt-div-mul-add, mod-eq-sub-mod, add-mod-mod, add-mul-mod_self_right}

module _ (w p c y v q : ℕ) (p>0 : 0 < p) (y< : y < 2 ^ w) (ev : v ≡ c * 2 ^ w / p) (eq : q ≡ v * y / 2 ^ w) where
  pub low : q * p ≤ c * y
  low =
      let i : q * 2 ^ w * p ≤ v * y * p = mul-le-mul_right p (rw eq (div-mul-le_self (v * y) (2 ^ w))) in
      let j : v * p * y ≤ c * 2 ^ w * y = mul-le-mul_right y (rw ev (div-mul-le_self (c * 2 ^ w) p)) in
      le_of_mul-le-mul_right {k = 2 ^ w} (omega (arith, mul_right_comm q p (2 ^ w), mul_right_comm v y p, mul_right_comm c y (2 ^ w))) (pow_pos w)

  pub high : c * y < q * p + (p + p)
  high =
      let i : v * y * p < (q * 2 ^ w + 2 ^ w) * p = mul-lt-mul_of_pos_right (rw eq (lt-div-mul-add (pow_pos w))) p>0 in
      let l : c * 2 ^ w < v * p + p = rw ev (lt-div-mul-add p>0) in
      let j : c * 2 ^ w * y ≤ (v * p + p) * y = mul-le-mul_right y (omega arith) in
      let k : p * y ≤ p * 2 ^ w = mul-le-mul_left p (omega arith) in
      lt_of_mul-lt-mul_right (2 ^ w) (omega (
        arith,
        mul_right_comm q p (2 ^ w),
        mul_right_comm v y p,
        mul_right_comm c y (2 ^ w),
        mul_comm p (2 ^ w),
        add-mul (v * p) p y,
        add-mul (q * 2 ^ w) (2 ^ w) p,
        add-mul (q * p) (p + p) (2 ^ w),
        add-mul p p (2 ^ w),
      ))

pub quotient_fits : (w p c : ℕ) → c < p → c * 2 ^ w / p < 2 ^ w
quotient_fits w p c h = (div-lt_iff_lt-mul {k = p} {x = c * 2 ^ w} {y = 2 ^ w} (omega arith)).1 (rw (mul_comm (2 ^ w) p) (mul-lt-mul_of_pos_right h (pow_pos w)))

pub taken : (p r : ℕ) → p ≤ r → r < p + p → r % p ≡ r - p
taken p r h l = mod-eq-sub-mod h ∙ mod-eq_of_lt (omega arith)

pub left_over : (p a n q : ℕ) → q * p ≤ n → (a + (n - q * p) % p) % p ≡ (a + n) % p
left_over p a n q h =
    let e : a + n ≡ a + (n - q * p) + q * p = omega arith in
    add-mod-mod a (n - q * p) p ∙ sym (rw e (add-mul-mod_self_right _ q p))
