-- Laws of products of polynomials modulo a prime.
--   conv_zero, conv_none, dot_assoc                 products as such: the lowest coefficient, a factor 0, and one factor taken out
--   conv_constant, scaled_zero, scaled_polynomial   a factor that is a number
--   conv_scaled, conv_scaled_back                   scaled factors
--   cancel_factor                                   a factor with a nonzero constant term can be taken away to any order
--   product_nonzero                                 the leading coefficient of a product is not 0
use mathlib.Core.Path.{◌≡◌, ap, sym, ◌∙◌}
use mathlib.Core.Logic.{◌≢◌}
use Prim.Native.Nat.{ℕ, zero, suc, ◌+◌, ◌*◌, ◌-◌, ◌%◌, ◌<◌}
use native.Mathlib.Nat.{mul-add, mul_assoc, mul_comm, mul_left_comm, one-mul, add_assoc, zero-mul, mul-zero, zero-add, sub-zero, suc-sub-suc, zero-mod, mod-lt, mod-eq_of_lt}
use native.Mathlib.Decide.{ℕ_discrete, dec_lt}
use native.Mathlib.Omega.{arith}
use Rattle.field.specs.Prime.{Prime}
use Rattle.field.specs.Inverse.{Inverse}
use Rattle.field.proofs.Residue.{mod_mul_left, mod_mul_right, mod_mul}
use Rattle.field.proofs.Prime.{cancel_mul, no_zero_div}
use Rattle.relation.specs.Sum.{sum_to}
use Rattle.relation.specs.Product.{conv, dot}
use Rattle.relation.specs.Vector.{Vect}
use Rattle.relation.specs.Degree.{Degree, DegreeBelow}
use Rattle.relation.specs.Polynomial.{Polynomial}
use Rattle.relation.specs.Operations.{scaled}
use Rattle.relation.proofs.Sum.{sum_ext, sum_add, sum_head, sum_single, sum_all_zero, sum_cong, sum_differ}
use Rattle.relation.proofs.Product.{conv_add, conv_scale, conv_mod}

pub conv_zero : (a f : ℕ → ℕ) → conv a f 0 ≡ a 0 * f 0
unfolding conv sum_to
conv_zero a f = zero-add _

conv_suc : (a f : ℕ → ℕ) (k : ℕ) → conv a f (suc k) ≡ a 0 * f (suc k) + conv (λ t. a (suc t)) f k
unfolding conv
conv_suc a f k = sum_head (suc k) _ ∙ rw sub-zero (ap (λ (x : ℕ). a 0 * f (suc k) + x) (sum_ext (suc k) _ _ (λ t ht. rw suc-sub-suc)))

conv_add_right : (a f g : ℕ → ℕ) (k : ℕ) → conv a (λ t. f t + g t) k ≡ conv a f k + conv a g k
unfolding conv
conv_add_right a f g k = simp (mul-add, sum_add)

conv_assoc : (a b f : ℕ → ℕ) (k : ℕ) → conv (conv a b) f k ≡ conv a (conv b f) k
conv_assoc a b f zero = rw (conv_zero (conv a b) f, conv_zero a (conv b f), conv_zero a b, conv_zero b f) (mul_assoc _ _ _)
conv_assoc a b f (suc k) =
    let l : conv (λ t. conv a b (suc t)) f k ≡ a 0 * conv (λ t. b (suc t)) f k + conv (λ t. a (suc t)) (conv b f) k =
    simp (conv_suc, conv_add, conv_scale) (rw (conv_assoc (λ t. a (suc t)) b f k)) in
    rw (conv_suc (conv a b) f k, l, conv_suc a (conv b f) k, conv_suc b f k, conv_zero a b, mul-add, mul_assoc) (sym (add_assoc _ _ _))

pub conv_none : (a : ℕ → ℕ) (k : ℕ) → conv a (λ t. 0) k ≡ 0
unfolding conv
conv_none a k = sum_all_zero (suc k) _ (λ t ht. mul-zero (a t))

-- the products of c * A with the series are c times those of A
pub dot_assoc : (n : ℕ) (c : ℕ → ℕ) (A F : Vect) (k : ℕ) → dot n (λ j. conv c (A j)) F k ≡ conv c (dot n A F) k
unfolding dot sum_to
dot_assoc zero c A F k = sym (conv_none c k)
dot_assoc (suc n) c A F k =
    rw (conv_assoc c (A n) (F n) k, conv_add_right c (dot n A F) (conv (A n) (F n)) k) (ap (λ (x : ℕ). x + conv c (conv (A n) (F n)) k) (dot_assoc n c A F k))

pub conv_constant : (c f : ℕ → ℕ) (k : ℕ) → DegreeBelow c 1 → conv c f k ≡ c 0 * f k
unfolding conv
conv_constant c f k z = sum_single (suc k) _ 0 (omega arith) (λ t ht ne. rw (z t (omega arith)) (zero-mul _)) ∙ rw sub-zero

-- a number times a polynomial
pub scaled_zero : (p h : ℕ) (f : ℕ → ℕ) (x : ℕ) → f x ≡ 0 → scaled p h f x ≡ 0
scaled_zero p h f x z = rw (z, mul-zero) (zero-mod p)

pub scaled_polynomial : {p : ℕ} {f : ℕ → ℕ} (h : ℕ) → 0 < p → Polynomial p f → Polynomial p (scaled p h f)
scaled_polynomial {p} {f} h hp a = record { small = λ x. mod-lt _ hp; bound = a.bound; high = λ x hx. scaled_zero p h f x (a.high x hx) }

pub conv_scaled : (p h : ℕ) (a f : ℕ → ℕ) (k : ℕ) → conv (scaled p h a) f k % p ≡ (h * conv a f k) % p
conv_scaled p h a f k = conv_mod p (λ t. h * a t) f k ∙ rw (conv_scale h a f k)

-- a number and its inverse, one in each factor
pub conv_scaled_back : {p a h : ℕ} (c f : ℕ → ℕ) (k : ℕ) → Inverse p a h → conv (scaled p a c) (scaled p h f) k % p ≡ conv c f k % p
unfolding conv
conv_scaled_back {p} {a} {h} c f k i = sum_cong p (suc k) _ _ (λ t ht. term (c t) (f (k - t)))
  where
    term : (x y : ℕ) → ((a * x) % p * ((h * y) % p)) % p ≡ (x * y) % p
    term x y =
        let q : a * x * (h * y) ≡ a * h * (x * y) = simp (mul_assoc, mul_left_comm) in
        sym (mod_mul p (a * x) (h * y)) ∙ rw q (sym (mod_mul_left p (a * h) (x * y)) ∙ rw (i.product, one-mul))

product_leading : (c f : ℕ → ℕ) (u v : ℕ) → DegreeBelow c (suc u) → DegreeBelow f (suc v) → conv c f (u + v) ≡ c u * f v
unfolding conv
product_leading c f u v hc hf =
    let q : u + v - u ≡ v = omega arith in
    sum_single (suc (u + v)) _ u (omega arith) (λ t ht ne. elim (dec_lt u t) [
      | yes g ↦ rw (hc t g) (zero-mul _)
      | no g ↦ rw (hf (u + v - t) (omega arith)) (mul-zero _)
    ])
    ∙ rw q

module _ (p : ℕ) (pr : Prime p) where
  cancel_last : (c f g : ℕ → ℕ) → c 0 < p → c 0 ≢ 0 → (s : ℕ) → conv c f s % p ≡ conv c g s % p → ((y : ℕ) → y < s → f y % p ≡ g y % p) → f s % p ≡ g s % p
  unfolding conv
  cancel_last c f g l nz s h z =
      let first : (c 0 * f (s - 0)) % p ≡ (c 0 * g (s - 0)) % p =
      sum_differ p (suc s) (λ t. c t * f (s - t)) (λ t. c t * g (s - t)) 0 (omega arith) (omega arith) h
      (λ t ht ne. sym (mod_mul_right p (c t) (f (s - t))) ∙ rw (z (s - t) (omega arith)) (mod_mul_right p (c t) (g (s - t)))) in
      cancel_mul p pr (f s) (g s) (c 0) l nz (rw (mul_comm (f s) (c 0), mul_comm (g s) (c 0)) (rw sub-zero at first))

  -- a factor with a nonzero constant term can be taken away, to any order
  pub cancel_factor : (c f g : ℕ → ℕ) → c 0 < p → c 0 ≢ 0 → (s : ℕ) → ((x : ℕ) → x < s → conv c f x % p ≡ conv c g x % p) → (x : ℕ) → x < s → f x % p ≡ g x % p
  cancel_factor c f g l nz zero h x hx = absurd (omega arith)
  cancel_factor c f g l nz (suc s) h x hx = elim (ℕ_discrete x s) [
    | no ne ↦ cancel_factor c f g l nz s (λ y hy. h y (omega arith)) x (omega arith)
    | yes q ↦ rw q (cancel_last c f g l nz s (h s (omega arith)) (cancel_factor c f g l nz s (λ y hy. h y (omega arith))))
  ]

  -- the leading coefficient of a product is not 0
  pub product_nonzero : {c f : ℕ → ℕ} {u v : ℕ} → ((x : ℕ) → c x < p) → ((x : ℕ) → f x < p) → Degree c u → Degree f v → conv c f (u + v) % p ≢ 0
  product_nonzero {c} {f} {u} {v} sc sf dc df z =
      let q : (c u * f v) % p ≡ 0 = rw (product_leading c f u v dc.above df.above) at z in
      dc.leading (sym (mod-eq_of_lt (sc u)) ∙ no_zero_div p pr (f v) (c u) (sf v) q df.leading)
