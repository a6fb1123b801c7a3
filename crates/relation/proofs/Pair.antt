-- The pair of the approximant of (-1, g): N is the order of its type, it exists, and is a relation with deg r below k and deg t at most N - k.
--   pair_vanishes   P_1, P_2 are a relation of -1 and g exactly where P_1 = P_2 * g
use mathlib.Core.Path.{◌≡◌, refl, ap, sym, ◌∙◌, fun_ext}
use mathlib.Core.Logic.{◌≢◌, ◌↔◌}
use Prim.Native.Nat.{ℕ, zero, suc, ◌+◌, ◌*◌, ◌-◌, ◌%◌, ◌≤◌, ◌<◌}
use native.Mathlib.Nat.{zero-add, mul-zero, mul-suc, mul-mod_left, add-mod-mod, mod-eq_of_lt}
use native.Mathlib.Decide.{ℕ_discrete}
use native.Mathlib.Omega.{arith}
use lib.IntN.{pos}
use Rattle.field.specs.Prime.{Prime}
use Rattle.field.proofs.Residue.{cancel_mod}
use Rattle.relation.specs.Sum.{sum_to}
use Rattle.relation.specs.Product.{conv, dot}
use Rattle.relation.specs.Vector.{Vect}
use Rattle.relation.specs.Relation.{VanishesTo, Relation}
use Rattle.relation.specs.Degree.{DegreeBelow}
use Rattle.relation.specs.Polynomial.{Polynomial}
use lib.Signed.{◌≤ℤ◌}
use Rattle.relation.specs.Sigma.{sumℤ, sigma_of}
use Rattle.relation.specs.Pair.{pair_series, pair_type, Pair}
use Rattle.relation.proofs.Sum.{sum_single}
use Rattle.relation.proofs.Integer.{pos_le, minus_pos}
use Rattle.relation.proofs.Bridge.{degree_exists}
use Rattle.relation.proofs.Theorems.{approximant_entries, approximant_exists}

module _ (k N : ℕ) (one≤k : 1 ≤ k) (k≤N : k ≤ N) where
  pub type_first : pair_type k N 0 ≡ pos (k - 1)
  unfolding pair_type
  type_first = minus_pos k 1 one≤k

  pub type_second : pair_type k N 1 ≡ pos (N - k)
  unfolding pair_type
  type_second = minus_pos N k k≤N

  pub pair_order_is : pos N ≡ sigma_of 2 (pair_type k N)
  unfolding sigma_of sumℤ
  pair_order_is = sym (rw (type_first, type_second) (minus_pos (0 + (k - 1 + 1) + (N - k + 1)) 1 (omega arith) ∙ ap pos (omega arith)))

  pub pair_exists : (p : ℕ) → Prime p → (g : ℕ → ℕ) → (r : ℕ → ℕ) × (t : ℕ → ℕ) × Pair p k N g r t
  pair_exists p pr g =
      let a = approximant_exists p 2 (pair_series p g) (pair_type k N) N pr (omega arith) pair_order_is in
      (a.0 a.1 0, a.0 a.1 1, record { rows = a.0; row = a.1; approximant = a.2; first = λ x. refl; second = λ x. refl })

-- the series -1 past its constant term
pub minus_one_ends : (p : ℕ) (g : ℕ → ℕ) (y : ℕ) → y ≢ 0 → pair_series p g 0 y ≡ 0
unfolding pair_series
minus_one_ends p g zero h = absurd (h refl)
minus_one_ends p g (suc y) h = refl

-- the coefficient of X^x in -P_1 + P_2 g
pair_dot : (p : ℕ) (g : ℕ → ℕ) (P : Vect) (x : ℕ) → dot 2 P (pair_series p g) x ≡ P 0 x * (p - 1) + conv (P 1) g x
unfolding dot sum_to conv pair_series
pair_dot p g P x =
    let z : x - x ≡ 0 = omega arith in
    let a : conv (P 0) (pair_series p g 0) x ≡ P 0 x * (p - 1) = sum_single (suc x) _ x (omega arith) (λ t ht ne. rw (minus_one_ends p g (x - t) (omega arith)) (mul-zero (P 0 t))) ∙ rw z in
    rw (a, zero-add)

-- a residue and its negative
minus_one_times : (p a y : ℕ) → 0 < p → a < p → ((a * (p - 1) + y) % p ≡ 0) ↔ (a ≡ y % p)
minus_one_times p a y hp l =
    let q : suc (p - 1) ≡ p = omega arith in
    let m : (a * (p - 1) + a) % p ≡ 0 = rw (← mul-suc a (p - 1), q) (mul-mod_left a p) in (
      λ z. sym (mod-eq_of_lt l) ∙ cancel_mod p (a * (p - 1)) (a * (p - 1)) a y hp (m ∙ sym z) refl,
      λ e. sym (add-mod-mod (a * (p - 1)) y p) ∙ rw (← e) m,
    )

-- P_1, P_2 are a relation of -1 and g to order N exactly where P_1 = P_2 * g to that order
pub pair_vanishes : {p : ℕ} (N : ℕ) (g : ℕ → ℕ) (P : Vect) → Prime p → ((x : ℕ) → P 0 x < p)
    → VanishesTo p 2 (pair_series p g) N P ↔ ((x : ℕ) → x < N → P 0 x ≡ conv (P 1) g x % p)
pair_vanishes {p} N g P pr small = (
  λ v x hx. (minus_one_times p (P 0 x) (conv (P 1) g x) (omega arith) (small x)).0 (rw (← pair_dot p g P x) (v x hx)),
  λ a x hx. rw (pair_dot p g P x) ((minus_one_times p (P 0 x) (conv (P 1) g x) (omega arith) (small x)).1 (a x hx)),
)

module _ {p k N : ℕ} {g r t : ℕ → ℕ} (pr : Prime p) (one≤k : 1 ≤ k) (k≤N : k ≤ N) (pair : Pair p k N g r t) where
  row : Vect
  row = pair.rows pair.row

  member : Relation p 2 (pair_series p g) N row
  unfolding row
  member = pair.approximant.basis.member pair.row pair.approximant.least.row

  -- an entry of type at most c ends there
  ends : (i c : ℕ) → i < 2 → pair_type k N i ≡ pos c → DegreeBelow (row i) (suc c)
  unfolding row
  ends i c hi q x g = elim (ℕ_discrete (row i x) 0) [
    | yes z ↦ z
    | no nz ↦
        let e = degree_exists (row i) member.vector.bound (λ t ht. member.vector.high i t ht) x nz in
        let h : pos e.0 ≤ℤ pos c = rw q at (approximant_entries pr pair.approximant i e.0 hi e.2) in
        absurd (omega (arith, pos_le e.0 c h, e.1))
  ]

  -- r = t * g to order N
  pub pair_agrees : (x : ℕ) → x < N → r x ≡ conv t g x % p
  unfolding row
  pair_agrees x hx =
      let q : row 1 ≡ t = fun_ext λ y. sym (pair.second y) in
      pair.first x ∙ (pair_vanishes N g row pr (λ x. member.vector.small 0 x)).0 member.vanishes x hx ∙ rw q

  -- deg r is below k
  pub pair_numerator : DegreeBelow r k
  unfolding row
  pair_numerator x h = pair.first x ∙ ends 0 (k - 1) (omega arith) (type_first k N one≤k k≤N) x (omega arith)

  -- deg t is at most N - k
  pub pair_denominator : DegreeBelow t (N - k + 1)
  unfolding row
  pair_denominator x h = pair.second x ∙ ends 1 (N - k) (omega arith) (type_second k N one≤k k≤N) x (omega arith)

  -- r and t are polynomials
  pub numerator_polynomial : Polynomial p r
  unfolding row
  numerator_polynomial = record { small = λ x. rw (pair.first x) (member.vector.small 0 x); bound = k; high = pair_numerator }

  pub denominator_polynomial : Polynomial p t
  unfolding row
  denominator_polynomial = record { small = λ x. rw (pair.second x) (member.vector.small 1 x); bound = N - k + 1; high = pair_denominator }
