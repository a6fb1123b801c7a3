-- Laws of conv and dot: linear in the first factor, shifted by X, taken modulo p.
use mathlib.Core.Path.{◌≡◌, sym, ◌∙◌}
use Prim.Native.Nat.{ℕ, suc, ◌+◌, ◌*◌, ◌-◌, ◌%◌, ◌≤◌, ◌<◌}
use native.Mathlib.Nat.{add-mul, mul_assoc, zero-mul, zero-add, suc-sub-suc, mul-zero, zero-mod}
use native.Mathlib.Omega.{arith}
use Rattle.field.proofs.Residue.{mod_mul_left, mod_mul_right}
use Rattle.relation.specs.Sum.{sum_to}
use Rattle.relation.specs.Product.{conv, dot}
use Rattle.relation.specs.Vector.{Vect}
use Rattle.relation.proofs.Sum.{sum_add, sum_scale, sum_cong, sum_head, sum_ext, sum_all_zero, sum_zero, sum_cut}

pub conv_add : (a a' b : ℕ → ℕ) (k : ℕ) → conv (λ t. a t + a' t) b k ≡ conv a b k + conv a' b k
unfolding conv
conv_add a a' b k = simp (add-mul, sum_add)

pub conv_scale : (c : ℕ) (a b : ℕ → ℕ) (k : ℕ) → conv (λ t. c * a t) b k ≡ c * conv a b k
unfolding conv
conv_scale c a b k = simp (mul_assoc, sum_scale)

pub dot_add : (n : ℕ) (P Q F : Vect) (k : ℕ) → dot n (λ i t. P i t + Q i t) F k ≡ dot n P F k + dot n Q F k
unfolding dot
dot_add n P Q F k = simp (conv_add, sum_add)

pub dot_scale : (n c : ℕ) (P F : Vect) (k : ℕ) → dot n (λ i t. c * P i t) F k ≡ c * dot n P F k
unfolding dot
dot_scale n c P F k = simp (conv_scale, sum_scale)

pub dot_zero : (n : ℕ) (G : Vect) (k : ℕ) → dot n (λ i t. 0) G k ≡ 0
unfolding dot conv
dot_zero n G k = sum_all_zero n _ (λ i hi. sum_all_zero (suc k) _ (λ t ht. zero-mul _))

-- a loop over the coefficients that there are
pub conv_short : (a f : ℕ → ℕ) (K k : ℕ) → K ≤ suc k → ((t : ℕ) → K ≤ t → a t ≡ 0) → conv a f k ≡ sum_to K (λ t. a t * f (k - t))
unfolding conv
conv_short a f K k h z = sum_cut K (suc k) (λ t. a t * f (k - t)) h (λ t g. rw (z t g) (zero-mul _))

-- X times the first factor
pub conv_shift : (a b : ℕ → ℕ) (k : ℕ) → a 0 ≡ 0 → conv a b (suc k) ≡ conv (λ t. a (suc t)) b k
unfolding conv
conv_shift a b k z = sum_head (suc k) _ ∙ rw (z, zero-mul, zero-add) (sum_ext (suc k) _ _ (λ t ht. rw suc-sub-suc))

-- modulo p, each factor may be taken modulo p
pub conv_mod : (p : ℕ) (a f : ℕ → ℕ) (k : ℕ) → conv (λ t. a t % p) f k % p ≡ conv a f k % p
unfolding conv
conv_mod p a f k = sum_cong p (suc k) _ _ (λ t ht. mod_mul_left p (a t) (f (k - t)))

pub dot_mod : (p n : ℕ) (P F : Vect) (k : ℕ) → dot n (λ i t. P i t % p) F k % p ≡ dot n P F k % p
unfolding dot
dot_mod p n P F k = sum_cong p n _ _ (λ i hi. conv_mod p (P i) (F i) k)

-- where all series vanish as far as k, so does each product
pub dot_vanish : (p n : ℕ) (F P : Vect) (k : ℕ) → ((t : ℕ) → t ≤ k → (i : ℕ) → i < n → F i t % p ≡ 0) → dot n P F k % p ≡ 0
unfolding dot conv
dot_vanish p n F P k h =
    sum_cong p n _ (λ i. 0) (λ i hi.
    sum_cong p (suc k) _ (λ t. 0) (λ t ht. sym (mod_mul_right p _ _) ∙ rw (h (k - t) (omega arith) i hi, mul-zero))
    ∙ rw (sum_zero (suc k)))
    ∙ rw (sum_zero n) (zero-mod p)
