-- What is done with vectors: a multiple of one is added to another, and one is multiplied by a power of X.
-- Each keeps vectors and V_s. A difference adds `neg p c` times.
--   times_x_power, zero_vector   X^t * P, and the vector 0; the other operations are definitions (specs/Operations)
use mathlib.Core.Path.{◌≡◌, refl, ap, sym, ◌∙◌, fun_ext, subst}
use mathlib.Core.Logic.{◌≢◌}
use Prim.Native.Nat.{ℕ, zero, suc, ◌+◌, ◌*◌, ◌%◌, ◌≤◌, ◌<◌}
use native.Mathlib.Nat.{add-mod, mod-mod, mod-add-mod, mul-zero, zero-mul, one-mul, add-zero, zero-add, add_assoc, mod-eq_of_lt, mod-lt, zero-mod, sub-zero}
use native.Mathlib.Decide.{ℕ_discrete}
use native.Mathlib.Omega.{arith}
use Rattle.field.proofs.Residue.{mod_mul_right, neg, neg_add, back}
use Rattle.relation.specs.Sum.{sum_to}
use Rattle.relation.specs.Product.{conv, dot}
use Rattle.relation.specs.Vector.{Vect, IsVec}
use Rattle.relation.specs.Relation.{VanishesTo}
use Rattle.relation.specs.Pick.{pick}
use Rattle.relation.specs.Operations.{add_multiple, add_multiples, times_x, unit}
use Rattle.relation.proofs.Pick.{pick_yes, pick_no}
use Rattle.relation.proofs.Sum.{sum_ext, sum_single, sum_all_zero}
use Rattle.relation.proofs.Product.{dot_add, dot_scale, dot_mod, dot_zero, conv_shift}

-- X^t * P
unfoldable pub times_x_power : ℕ → Vect → Vect
times_x_power zero P = P
times_x_power (suc t) P = times_x (times_x_power t P)

abbrev pub zero_vector : Vect
zero_vector = λ i k. 0

pub unit_other : (l i k : ℕ) → i ≢ l → unit l i k ≡ 0
unfolding unit
unit_other l i zero h = pick_no (ℕ_discrete i l) 1 0 h
unit_other l i (suc k) h = refl

pub unit_high : (l i k : ℕ) → k ≢ 0 → unit l i k ≡ 0
unfolding unit
unit_high l i zero h = absurd (h refl)
unit_high l i (suc k) h = refl

pub unit_one : (l : ℕ) → unit l l 0 ≡ 1
unfolding unit
unit_one l = pick_yes (ℕ_discrete l l) 1 0 refl

unit_small : (p l i k : ℕ) → 1 < p → unit l i k < p
unfolding unit pick
unit_small p l i zero h = go (ℕ_discrete i l)
  where
    go : (d : Dec (i ≡ l)) → pick d 1 0 < p
    go (yes a) = h
    go (no a) = omega arith
unit_small p l i (suc k) h = omega arith

-- vectors
pub vec_zero : (p n : ℕ) → 0 < p → IsVec p n zero_vector
vec_zero p n hp = record { small = λ i k. hp; out = λ i k h. refl; bound = 0; high = λ i k h. refl }

pub vec_unit : (p n l : ℕ) → 1 < p → l < n → IsVec p n (unit l)
vec_unit p n l hp hl = record {
  small = λ i k. unit_small p l i k hp;
  out = λ i k h. unit_other l i k (omega arith);
  bound = 1;
  high = λ i k h. unit_high l i k (omega arith);
}

pub zero_add_multiple : (p c x y : ℕ) → x ≡ 0 → y ≡ 0 → (x + c * y) % p ≡ 0
zero_add_multiple p c x y hx hy = rw (hx, hy, mul-zero, add-zero) (zero-mod p)

pub vec_add_multiple : (p n c : ℕ) (S P : Vect) → 0 < p → IsVec p n S → IsVec p n P → IsVec p n (add_multiple p c S P)
unfolding add_multiple
vec_add_multiple p n c S P hp hS hP = record {
  small = λ i k. mod-lt _ hp;
  out = λ i k h. zero_add_multiple p c _ _ (hP.out i k h) (hS.out i k h);
  bound = hP.bound + hS.bound;
  high = λ i k h. zero_add_multiple p c _ _ (hP.high i k (omega arith)) (hS.high i k (omega arith));
}

pub vec_times_x : (p n : ℕ) (P : Vect) → 0 < p → IsVec p n P → IsVec p n (times_x P)
unfolding times_x
vec_times_x p n P hp h = record { small = sm; out = ou; bound = suc h.bound; high = hi }
  where
    sm : (i k : ℕ) → times_x P i k < p
    sm i zero = hp
    sm i (suc k) = h.small i k

    ou : (i k : ℕ) → n ≤ i → times_x P i k ≡ 0
    ou i zero l = refl
    ou i (suc k) l = h.out i k l

    hi : (i k : ℕ) → suc h.bound ≤ k → times_x P i k ≡ 0
    hi i zero l = refl
    hi i (suc k) l = h.high i k (omega arith)

pub vec_times_x_power : (p n t : ℕ) (P : Vect) → 0 < p → IsVec p n P → IsVec p n (times_x_power t P)
unfolding times_x_power
vec_times_x_power p n zero P hp h = h
vec_times_x_power p n (suc t) P hp h = vec_times_x p n (times_x_power t P) hp (vec_times_x_power p n t P hp h)

-- P, less a multiple of S, and P back again
pub add_multiple_back : (p n c : ℕ) (S P : Vect) → 0 < p → IsVec p n P → add_multiple p c S (add_multiple p (neg p c) S P) ≡ P
unfolding add_multiple
add_multiple_back p n c S P hp h = fun_ext λ i. fun_ext λ k. back p (P i k) c (neg p c) (S i k) (neg_add p c hp) (h.small i k)

pub times_x_power_at : (t : ℕ) (P : Vect) (i k : ℕ) → times_x_power t P i (t + k) ≡ P i k
unfolding times_x_power times_x
times_x_power_at zero P i k = rw zero-add
times_x_power_at (suc t) P i k = let e : suc t + k ≡ suc (t + k) = omega arith in rw e (times_x_power_at t P i k)

pub times_x_power_entry : (t : ℕ) (P R : Vect) (i j : ℕ) → ((k : ℕ) → P i k ≡ R j k) → (k : ℕ) → times_x_power t P i k ≡ times_x_power t R j k
unfolding times_x_power times_x
times_x_power_entry zero P R i j h k = h k
times_x_power_entry (suc t) P R i j h zero = refl
times_x_power_entry (suc t) P R i j h (suc k) = times_x_power_entry t P R i j h k

-- products with the series
pub dot_add_multiple : (p n c : ℕ) (S P F : Vect) (k : ℕ) → dot n (add_multiple p c S P) F k % p ≡ (dot n P F k + c * dot n S F k) % p
unfolding add_multiple
dot_add_multiple p n c S P F k =
    dot_mod p n (λ i t. P i t + c * S i t) F k ∙ ap (λ (x : ℕ). x % p) (dot_add n P (λ i t. c * S i t) F k ∙ rw (dot_scale n c S F k))

pub dot_times_x : (n : ℕ) (P F : Vect) (k : ℕ) → dot n (times_x P) F (suc k) ≡ dot n P F k
unfolding dot times_x
dot_times_x n P F k = sum_ext n _ _ (λ i hi. conv_shift (times_x P i) (F i) k refl)

pub dot_times_x_zero : (n : ℕ) (P F : Vect) → dot n (times_x P) F 0 ≡ 0
unfolding dot times_x conv sum_to
dot_times_x_zero n P F = sum_all_zero n _ (λ i hi. rw zero-mul (omega arith))

pub dot_unit : (n l : ℕ) (G : Vect) (k : ℕ) → l < n → dot n (unit l) G k ≡ G l k
unfolding dot conv
dot_unit n l G k hl =
    sum_single n _ l hl (λ i hi ne. sum_all_zero (suc k) _ (λ t ht. rw (unit_other l i t ne) (zero-mul _)))
    ∙ sum_single (suc k) _ 0 (omega arith) (λ t ht ne. rw (unit_high l l t ne) (zero-mul _))
    ∙ rw (unit_one l, one-mul, sub-zero)

pub dot_times_x_power : (n l t : ℕ) (G : Vect) (k : ℕ) → l < n → dot n (times_x_power t (unit l)) G k ≡ times_x_power t G l k
unfolding times_x_power times_x
dot_times_x_power n l zero G k hl = dot_unit n l G k hl
dot_times_x_power n l (suc t) G zero hl = dot_times_x_zero n (times_x_power t (unit l)) G
dot_times_x_power n l (suc t) G (suc k) hl = dot_times_x n (times_x_power t (unit l)) G k ∙ dot_times_x_power n l t G k hl

-- V_s is closed under all of it
pub vanishes_zero : (p n : ℕ) (F : Vect) (s : ℕ) → VanishesTo p n F s zero_vector
vanishes_zero p n F s k hk = rw (dot_zero n F k) (zero-mod p)

pub vanishes_add_multiple : (p n : ℕ) (F : Vect) (s c : ℕ) (S P : Vect) → VanishesTo p n F s S → VanishesTo p n F s P → VanishesTo p n F s (add_multiple p c S P)
vanishes_add_multiple p n F s c S P hS hP k hk =
    dot_add_multiple p n c S P F k ∙ add-mod _ _ p
    ∙ rw (hP k hk, zero-add) (mod-mod _ p ∙ sym (mod_mul_right p c (dot n S F k)) ∙ rw (hS k hk, mul-zero) (zero-mod p))

pub vanishes_times_x : (p n : ℕ) (F : Vect) (s : ℕ) (P : Vect) → VanishesTo p n F s P → VanishesTo p n F (suc s) (times_x P)
vanishes_times_x p n F s P h zero hk = rw (dot_times_x_zero n P F) (zero-mod p)
vanishes_times_x p n F s P h (suc k) hk = rw (dot_times_x n P F k) (h k (omega arith))

pub vanishes_times_x_power : (p n : ℕ) (F : Vect) (s t : ℕ) (P : Vect) → VanishesTo p n F s P → VanishesTo p n F (t + s) (times_x_power t P)
unfolding times_x_power
vanishes_times_x_power p n F s zero P h k hk = h k (omega arith)
vanishes_times_x_power p n F s (suc t) P h k hk = vanishes_times_x p n F (t + s) (times_x_power t P) (vanishes_times_x_power p n F s t P h) k (omega arith)

-- a multiple of X^t * S may be added
pub vanishes_term : (p n : ℕ) (F : Vect) (s t c : ℕ) (S P : Vect) → VanishesTo p n F s S → VanishesTo p n F s P
    → VanishesTo p n F s (add_multiple p c (times_x_power t S) P)
vanishes_term p n F s t c S P hS hP =
    vanishes_add_multiple p n F s c (times_x_power t S) P (λ k hk. vanishes_times_x_power p n F s t S hS k (omega arith)) hP

-- one order more, and one less
pub vanishes_more : (p n : ℕ) (F : Vect) (j : ℕ) (P : Vect) → VanishesTo p n F j P → dot n P F j % p ≡ 0 → VanishesTo p n F (suc j) P
vanishes_more p n F j P h z k hk = elim (ℕ_discrete k j) [ yes q ↦ rw q z | no nq ↦ h k (omega arith) ]

pub vanishes_less : (p n : ℕ) (F : Vect) (j : ℕ) (P : Vect) → VanishesTo p n F (suc j) P → VanishesTo p n F j P
vanishes_less p n F j P h k hk = h k (omega arith)

-- many multiples, one by one
pub add_multiples_none : (p n : ℕ) (a : ℕ → ℕ) (R : ℕ → Vect) (P : Vect) → IsVec p n P → P ≡ add_multiples p 0 a R P
unfolding add_multiples sum_to
add_multiples_none p n a R P h = fun_ext λ k. fun_ext λ t. sym (rw add-zero (mod-eq_of_lt (h.small k t)))

pub add_multiples_more : (p N : ℕ) (a : ℕ → ℕ) (R : ℕ → Vect) (P : Vect) → add_multiple p (a N) (R N) (add_multiples p N a R P) ≡ add_multiples p (suc N) a R P
unfolding add_multiples add_multiple sum_to
add_multiples_more p N a R P = fun_ext λ k. fun_ext λ t. mod-add-mod _ p _ ∙ rw add_assoc

-- what the multiples keep
pub add_multiples_keep : (p n : ℕ) (M : Vect → Type 0) → ((c : ℕ) (S P : Vect) → M S → M P → M (add_multiple p c S P))
    → (N : ℕ) (a : ℕ → ℕ) (R : ℕ → Vect) (P : Vect) → ((l : ℕ) → l < N → M (R l)) → IsVec p n P → M P → M (add_multiples p N a R P)
add_multiples_keep p n M add zero a R P hR vP hP = subst M (add_multiples_none p n a R P vP) hP
add_multiples_keep p n M add (suc N) a R P hR vP hP = subst M (add_multiples_more p N a R P)
    (add (a N) (R N) (add_multiples p N a R P) (hR N (omega arith)) (add_multiples_keep p n M add N a R P (λ l hl. hR l (omega arith)) vP hP))
