-- The digits that are written are the decimal ones: the fewest places are one number, and a difference is shown with its sign.
use mathlib.Core.Path.{◌≡◌, refl, sym, ap, ◌∙◌}
use mathlib.Core.List.{◌∷◌}
use Prim.Native.Nat.{ℕ, zero, suc, ◌+◌, ◌-◌, ◌/◌, ◌^◌, ◌≤◌, ◌<◌}
use native.Mathlib.Nat.{pow-suc, one-le-pow}
use native.Mathlib.Omega.{arith}
use borrow.Author.Tests.{lt-ltb, le-ltb}
use Rattle.io.specs.Digits.{last_digits, IsDigitCount}
use Rattle.report.specs.Decimal.{places_within, places, decimal, signed}
use Rattle.report.specs.Text.{shifted_degree}

pub few : (n f : ℕ) → n < 10 → places_within f n ≡ 1
unfolding places_within
few n zero h = refl
few n (suc f) h = rw (lt-ltb n 10 h, places_within)

pub many : (n f : ℕ) → 10 ≤ n → places_within (suc f) n ≡ suc (places_within f (n / 10))
unfolding places_within
many n f h = rw (le-ltb n 10 h, places_within)

pred_suc : (k : ℕ) → suc k - 1 ≡ k
pred_suc k = omega arith

high : (k n : ℕ) → IsDigitCount 10 1 n (suc (suc k)) → 10 ^ suc k ≤ n
high k n w = rw (pred_suc (suc k)) at (w.2 (omega arith))

-- k digits hold n, and no fewer do
fewest_within : (k n f : ℕ) → n ≤ f → IsDigitCount 10 1 n (suc k) → suc k ≡ places_within f n
fewest_within zero n f h w = sym (few n f w.1)
fewest_within (suc k) n zero h w = absurd (omega (arith, high k n w))
fewest_within (suc k) n (suc f) h w =
    let e = pow-suc 10 k in
    let g : 10 ^ suc k ≤ n = high k n w in
    ap suc (fewest_within k (n / 10) f (omega arith) (omega arith, omega (arith, w.1, pow-suc 10 (suc k)), λ _. rw (pred_suc k) (omega arith)))
    ∙ sym (many n f (omega (arith, one-le-pow k 10 (omega arith))))

pub fewest_decimal : (k n : ℕ) → IsDigitCount 10 1 n k → last_digits 10 k n ≡ decimal n
unfolding decimal places
fewest_decimal zero n w = absurd (omega arith)
fewest_decimal (suc k) n w = ap (λ (j : ℕ). last_digits 10 j n) (fewest_within k n n (omega arith) w)

pub signed_high : (a b : ℕ) → b ≤ a → signed (shifted_degree a b) ≡ decimal (a - b)
unfolding signed shifted_degree
signed_high a zero h = ap decimal (let e : a + 0 ≡ a - 0 = omega arith in e)
signed_high a (suc b) h = rw (le-ltb a (suc b) h)

pub signed_low : (a b : ℕ) → a < b → signed (shifted_degree a b) ≡ 45 ∷ decimal (b - a)
unfolding signed shifted_degree
signed_low a zero h = absurd (omega arith)
signed_low a (suc b) h = rw (lt-ltb a (suc b) h) (let e : suc (suc b - suc a) ≡ suc b - a = omega arith in rw e)
