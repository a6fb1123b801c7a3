-- Residues of sums and products. Numbers are naturals and `% p` is taken late; a difference adds `neg p c`.
--   mod_mul_left, mod_mul_right, mod_mul   a factor's residue may be taken first
--   sum_mul_left                           so it may in a sum
--   neg, neg_add, neg_nonzero              the number to add for a difference
--   drop_mult, mult_zero                   multiples of p vanish
--   back, diff_zero, cancel_mod            what was added is taken away again
use Rattle.std.proofs.Common.{◌≡◌, ℕ, ◌+◌, ◌-◌, ◌*◌, ◌/◌, ◌%◌, ◌<◌, ◌≢◌, sym, ap, ◌∙◌, add_assoc, mod-lt, mod-eq_of_lt, mul_assoc, mul_comm, add-mul, one-mul, zero-add, zero-mul, arith}
use native.Mathlib.Nat.{add-mod, mod-mod, mod-add-mod, add-mod-mod, mod-add-div, add-mul-mod_self_left, mod_self, zero-mod}

pub mod_mul_left : (p a b : ℕ) → (a % p * b) % p ≡ (a * b) % p
mod_mul_left p a b =
    let e : a * b ≡ a % p * b + p * (a / p * b) = ap (λ (x : ℕ). x * b) (sym (mod-add-div a p)) ∙ simp (add-mul, mul_assoc) in
    sym (rw e (add-mul-mod_self_left _ _ _))

pub mod_mul_right : (p a b : ℕ) → (a * (b % p)) % p ≡ (a * b) % p
mod_mul_right p a b = rw (mul_comm a (b % p), mul_comm a b) (mod_mul_left p b a)

pub mod_mul : (p a b : ℕ) → (a * b) % p ≡ (a % p * (b % p)) % p
mod_mul p a b = sym (mod_mul_left p a (b % p) ∙ mod_mul_right p a b)

pub sum_mul_left : (p x a b : ℕ) → (x + a % p * b) % p ≡ (x + a * b) % p
sum_mul_left p x a b = sym (add-mod-mod x (a % p * b) p) ∙ rw (mod_mul_left p a b) (add-mod-mod x (a * b) p)

-- the number to add for a difference
unfoldable pub neg : ℕ → ℕ → ℕ
neg p c = p - c % p

pub neg_add : (p c : ℕ) → 0 < p → (neg p c + c) % p ≡ 0
unfolding neg
neg_add p c h =
    let l : c % p < p = mod-lt c h in
    sym (add-mod-mod (p - c % p) c p) ∙ (let e : p - c % p + c % p ≡ p = omega arith in rw e (mod_self p))

pub neg_nonzero : (p x : ℕ) → x < p → x ≢ 0 → neg p x % p ≡ 0 → ⊥
unfolding neg
neg_nonzero p x l z h =
    let e : x % p ≡ x = mod-eq_of_lt l in
    let f : (p - x) % p ≡ 0 = rw e at h in
    let g : (p - x) % p ≡ p - x = mod-eq_of_lt (omega arith) in
    omega arith

-- a multiple of p adds nothing
pub drop_mult : (p a x y : ℕ) → x % p ≡ 0 → (a + x * y) % p ≡ a % p
drop_mult p a x y h =
    let e : x ≡ p * (x / p) = sym (mod-add-div x p) ∙ rw (h, zero-add) in
    let f : x * y ≡ p * (x / p * y) = ap (λ (z : ℕ). z * y) e ∙ mul_assoc p (x / p) y in
    rw f (add-mul-mod_self_left a p (x / p * y))

pub mult_zero : (p x y : ℕ) → x % p ≡ 0 → (x * y) % p ≡ 0
mult_zero p x y h = mod_mul p x y ∙ rw (h, zero-mul) (zero-mod p)

-- to add c * s, after d * s with c + d a multiple of p, is to do nothing
pub back : (p a c d s : ℕ) → (d + c) % p ≡ 0 → a < p → ((a + d * s) % p + c * s) % p ≡ a
back p a c d s h l =
    let e : a + d * s + c * s ≡ a + (d + c) * s = rw add-mul (add_assoc a _ _) in
    mod-add-mod (a + d * s) p (c * s) ∙ rw e (drop_mult p a (d + c) s h ∙ mod-eq_of_lt l)

-- residues that differ by 0 are equal
pub diff_zero : (p x y : ℕ) → 0 < p → x < p → y < p → (x + neg p 1 * y) % p ≡ 0 → x ≡ y
diff_zero p x y hp hx hy z = sym (back p x 1 (neg p 1) y (neg_add p 1 hp) hx) ∙ rw (z, zero-add, one-mul) (mod-eq_of_lt hy)

-- equal residues are taken from both sides
pub cancel_mod : (p a b c d : ℕ) → 0 < p → (a + c) % p ≡ (b + d) % p → a % p ≡ b % p → c % p ≡ d % p
cancel_mod p a b c d hp h e =
    let s : ((neg p a + a) + c) % p ≡ ((neg p a + b) + d) % p =
    rw (add_assoc (neg p a) a c, add_assoc (neg p a) b d) (add-mod _ _ p ∙ rw h (sym (add-mod _ _ p))) in
    let g : (neg p a + b) % p ≡ 0 = add-mod _ _ p ∙ rw (← e) (sym (add-mod _ _ p) ∙ neg_add p a hp) in
    let u : ((neg p a + a) + c) % p ≡ c % p = add-mod _ _ p ∙ rw (neg_add p a hp, zero-add) (mod-mod c p) in
    let v : ((neg p a + b) + d) % p ≡ d % p = add-mod _ _ p ∙ rw (g, zero-add) (mod-mod d p) in
    sym u ∙ s ∙ v
