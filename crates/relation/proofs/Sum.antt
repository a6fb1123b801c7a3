-- Laws of sums over a range of numbers.
--   sum_ext, sum_add, sum_scale, sum_zero, sum-swap, sum_head   sums as such
--   sum_all_zero, sum_single, sum_cut, sum_ge                   sums of few terms
--   sum_cong, sum_differ                                        sums modulo p
--   sum_le, sum_tight, sum_bump                                 comparing two sums
use mathlib.Core.Path.{◌≡◌, refl, sym, ◌∙◌}
use mathlib.Core.Logic.{◌≢◌}
use Prim.Native.Nat.{ℕ, zero, suc, ◌+◌, ◌*◌, ◌%◌, ◌≤◌, ◌<◌}
use native.Mathlib.Nat.{add-mod, mul-add, mul-zero, add_comm}
use native.Mathlib.Decide.{ℕ_discrete}
use native.Mathlib.Omega.{arith}
use Rattle.field.proofs.Residue.{cancel_mod}
use Rattle.relation.specs.Sum.{sum_to}

pub sum_ext : (k : ℕ) (f g : ℕ → ℕ) → ((i : ℕ) → i < k → f i ≡ g i) → sum_to k f ≡ sum_to k g
unfolding sum_to
sum_ext zero f g h = refl
sum_ext (suc k) f g h = cc (sum_ext k f g (λ i hi. h i (omega arith)), h k (omega arith))

pub sum_add : (k : ℕ) (f g : ℕ → ℕ) → sum_to k (λ i. f i + g i) ≡ sum_to k f + sum_to k g
unfolding sum_to
sum_add zero f g = refl
sum_add (suc k) f g = rw (sum_add k f g) (omega arith)

pub sum_scale : (k c : ℕ) (f : ℕ → ℕ) → sum_to k (λ i. c * f i) ≡ c * sum_to k f
unfolding sum_to
sum_scale zero c f = sym (mul-zero c)
sum_scale (suc k) c f = rw (sum_scale k c f, mul-add)

pub sum_zero : (k : ℕ) → sum_to k (λ i. 0) ≡ 0
unfolding sum_to
sum_zero zero = refl
sum_zero (suc k) = rw (sum_zero k)

pub sum_head : (k : ℕ) (f : ℕ → ℕ) → sum_to (suc k) f ≡ f 0 + sum_to k (λ i. f (suc i))
unfolding sum_to
sum_head zero f = omega arith
sum_head (suc k) f =
    let h : sum_to k f + f k ≡ f 0 + sum_to k (λ i. f (suc i)) = sum_head k f in
    omega arith

pub sum_all_zero : (k : ℕ) (f : ℕ → ℕ) → ((i : ℕ) → i < k → f i ≡ 0) → sum_to k f ≡ 0
sum_all_zero k f h = sum_ext k f (λ i. 0) h ∙ sum_zero k

pub sum_single : (k : ℕ) (f : ℕ → ℕ) (j : ℕ) → j < k → ((i : ℕ) → i < k → i ≢ j → f i ≡ 0) → sum_to k f ≡ f j
unfolding sum_to
sum_single zero f j l h = absurd (omega arith)
sum_single (suc k) f j l h = elim (ℕ_discrete k j) [
  | yes e ↦ let z : sum_to k f ≡ 0 = sum_all_zero k f (λ i hi. h i (omega arith) (omega arith)) in rw (z, e) (omega arith)
  | no ne ↦ rw (sum_single k f j (omega arith) (λ i hi. h i (omega arith)), h k (omega arith) ne) (omega arith)
]

-- a sum whose terms end at K
pub sum_cut : (K k : ℕ) (f : ℕ → ℕ) → K ≤ k → ((t : ℕ) → K ≤ t → f t ≡ 0) → sum_to k f ≡ sum_to K f
unfolding sum_to
sum_cut K zero f h z = let q : K ≡ 0 = omega arith in rw q
sum_cut K (suc k) f h z = elim (ℕ_discrete K (suc k)) [
  | yes q ↦ rw q
  | no nq ↦ rw (z k (omega arith), sum_cut K k f (omega arith) z) (omega arith)
]

pub sum_ge : (n : ℕ) (b : ℕ → ℕ) (i : ℕ) → i < n → b i ≤ sum_to n b
unfolding sum_to
sum_ge zero b i h = absurd (omega arith)
sum_ge (suc n) b i h = elim (ℕ_discrete i n) [
  | yes e ↦ rw e (omega arith)
  | no ne ↦ let m : b i ≤ sum_to n b = sum_ge n b i (omega arith) in omega arith
]

pub sum_cong : (p k : ℕ) (f g : ℕ → ℕ) → ((i : ℕ) → i < k → f i % p ≡ g i % p) → sum_to k f % p ≡ sum_to k g % p
unfolding sum_to
sum_cong p zero f g h = refl
sum_cong p (suc k) f g h = add-mod _ _ p ∙ rw (sum_cong p k f g (λ i hi. h i (omega arith)), h k (omega arith)) (sym (add-mod _ _ p))

-- two sums that agree modulo p, and whose terms agree but for one, agree there
pub sum_differ : (p k : ℕ) (f g : ℕ → ℕ) (j : ℕ) → 0 < p → j < k → sum_to k f % p ≡ sum_to k g % p
    → ((i : ℕ) → i < k → i ≢ j → f i % p ≡ g i % p) → f j % p ≡ g j % p
unfolding sum_to
sum_differ p zero f g j hp l h e = absurd (omega arith)
sum_differ p (suc k) f g j hp l h e = elim (ℕ_discrete k j) [
  | yes q ↦ let z : sum_to k f % p ≡ sum_to k g % p = sum_cong p k f g (λ i hi. e i (omega arith) (omega arith)) in
      rw (← q) (cancel_mod p (sum_to k f) (sum_to k g) (f k) (g k) hp h z)
  | no nq ↦
      let h' : (f k + sum_to k f) % p ≡ (g k + sum_to k g) % p = rw (add_comm (f k) (sum_to k f), add_comm (g k) (sum_to k g)) h in
      sum_differ p k f g j hp (omega arith) (cancel_mod p (f k) (g k) (sum_to k f) (sum_to k g) hp h' (e k (omega arith) nq))
      (λ i hi. e i (omega arith))
]

pub sum_le : (n : ℕ) (f g : ℕ → ℕ) → ((l : ℕ) → l < n → f l ≤ g l) → sum_to n f ≤ sum_to n g
unfolding sum_to
sum_le zero f g h = omega arith
sum_le (suc n) f g h = omega (arith, sum_le n f g (λ l hl. h l (omega arith)), h n (omega arith))

-- where no term is larger and the sums are equal, the terms are
pub sum_tight : (n : ℕ) (f g : ℕ → ℕ) → ((l : ℕ) → l < n → f l ≤ g l) → sum_to n f ≡ sum_to n g → (l : ℕ) → l < n → f l ≡ g l
unfolding sum_to
sum_tight zero f g h s l hl = absurd (omega arith)
sum_tight (suc n) f g h s l hl =
    let a : f n ≤ g n = h n (omega arith) in
    let c : sum_to n f ≤ sum_to n g = sum_le n f g (λ l hl. h l (omega arith)) in
    elim (ℕ_discrete l n) [
      | yes q ↦ rw q (omega arith)
      | no nq ↦ sum_tight n f g (λ l hl. h l (omega arith)) (omega arith) l (omega arith)
    ]

-- one term raised by 1
pub sum_bump : (n i : ℕ) (f g : ℕ → ℕ) → i < n → g i ≡ suc (f i) → ((l : ℕ) → l < n → l ≢ i → g l ≡ f l) → sum_to n g ≡ suc (sum_to n f)
unfolding sum_to
sum_bump zero i f g hi gi gl = absurd (omega arith)
sum_bump (suc n) i f g hi gi gl = elim (ℕ_discrete i n) [
  | yes q ↦
      let a : sum_to n g ≡ sum_to n f = sum_ext n g f (λ l hl. gl l (omega arith) (omega arith)) in
      let c : g n ≡ suc (f n) = rw q at gi in
      omega arith
  | no nq ↦
      let a : sum_to n g ≡ suc (sum_to n f) = sum_bump n i f g (omega arith) gi (λ l hl. gl l (omega arith)) in
      let c : g n ≡ f n = gl n (omega arith) (λ r. nq (sym r)) in
      omega arith
]
