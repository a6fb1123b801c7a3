-- Fractions of a series. Let r0, t0 be the pair of k and N coefficients of g.
--   expansion_agrees           whatever series r / t is, it is g to order N
--   least_no_factor            a least row has no common factor with a nonzero constant term
--   fraction_is_multiple       every fraction is a polynomial multiple of r0, t0
--   no_fraction_at_zero        so there is none where t0(0) is 0
--   scaled_pair_is_lowest      else r0, t0 scaled so that t(0) = 1 is one in lowest terms
--   fraction_exists_exactly    there is a fraction exactly where t0(0) is not 0
--   lowest_exists, lowest_unique, fraction_of_lowest   one fraction is in lowest terms, and every other is a multiple of it
use mathlib.Core.Path.{◌≡◌, refl, ap, sym, ◌∙◌, fun_ext}
use mathlib.Core.Logic.{◌≢◌, ◌↔◌}
use Prim.Native.Nat.{ℕ, zero, suc, ◌+◌, ◌*◌, ◌-◌, ◌%◌, ◌≤◌, ◌<◌}
use native.Mathlib.Nat.{zero-mul, mul-zero, mul_comm, zero-add, zero-mod, mod-eq_of_lt}
use native.Mathlib.Decide.{ℕ_discrete}
use native.Mathlib.Omega.{arith}
use lib.IntN.{ℤ, pos, ◌+ℤ◌}
use Rattle.field.specs.Prime.{Prime}
use Rattle.field.specs.Inverse.{Inverse}
use Rattle.field.proofs.Residue.{mod_mul_right}
use Rattle.field.proofs.Prime.{inverse_exists, inverse_unique}
use Rattle.relation.specs.Sum.{sum_to}
use Rattle.relation.specs.Product.{conv, dot}
use Rattle.relation.specs.Vector.{Vect, IsVec}
use Rattle.relation.specs.Relation.{VanishesTo}
use Rattle.relation.specs.Degree.{DegreeBelow}
use Rattle.relation.specs.LeadingZeros.{LeadingZeros}
use Rattle.relation.specs.Combination.{combination, Combination}
use Rattle.relation.specs.Polynomial.{Polynomial, PolynomialMultiple, NoCommonFactor}
use Rattle.relation.specs.Fraction.{Fraction, HasFraction, LowestFraction}
use Rattle.relation.specs.Operations.{scaled}
use Rattle.relation.specs.Pair.{pair_series, pair_type, Pair}
use Rattle.relation.specs.Weight.{weight, BelowWeight}
use Rattle.relation.specs.ReducedBasis.{WeightBasis}
use Rattle.relation.proofs.Product.{dot_mod}
use Rattle.relation.proofs.Polynomial.{conv_zero, conv_none, dot_assoc, conv_constant, scaled_zero, scaled_polynomial, conv_scaled, conv_scaled_back, cancel_factor, product_nonzero}
use Rattle.relation.proofs.Weight.{weight_lt, weight_le, vec_below, lead_exists, weight→order}
use Rattle.relation.proofs.Generation.{generated_by_row}
use Rattle.relation.proofs.Existence.{pivot_sum}
use Rattle.relation.proofs.Integer.{pos_inj}
use Rattle.relation.proofs.Shift.{base, offsets, offset}
use Rattle.relation.proofs.Bridge.{degree_exists, leads→degree, minimal→basis, least→basis, pivots_exist}
use Rattle.relation.proofs.Pair.{type_first, type_second, pair_exists, pair_vanishes, pair_agrees, pair_numerator, pair_denominator, numerator_polynomial, denominator_polynomial}

-- a series that t takes to r is g to order N
pub expansion_agrees : {p k N : ℕ} {g r t : ℕ → ℕ} → Prime p → Fraction p k N g r t → (e : ℕ → ℕ) → ((x : ℕ) → x < N → r x ≡ conv t e x % p)
    → (x : ℕ) → x < N → e x % p ≡ g x % p
expansion_agrees {p} {k} {N} {g} {r} {t} pr f e h = cancel_factor p pr t e g (f.denominator.small 0) f.constant N (λ x hx. sym (h x hx) ∙ f.agrees x hx)

-- a member of V_s that leads no higher than the least row has no factor c but constants, if c(0) is not 0:
-- the quotients are a member too, and would lead lower
module _ {p n : ℕ} {b : ℕ → ℕ} {F : Vect} {s : ℕ} {Q : ℕ → Vect} {e : ℕ → ℕ} (pr : Prime p) (wb : WeightBasis p n b F s Q e)
    (i : ℕ) (least : (l : ℕ) → l < n → weight n b i (e i) ≤ weight n b l (e l)) where
  least_no_factor : (S A : Vect) (c : ℕ → ℕ) → VanishesTo p n F s S → BelowWeight n b (suc (weight n b i (e i))) S → Polynomial p c → IsVec p n A
      → ((j x : ℕ) → S j x ≡ conv c (A j) x % p) → c 0 ≢ 0 → (j y : ℕ) → j < n → A j y ≢ 0 → DegreeBelow c 1
  least_no_factor S A c vS bS pc vA prod c0 j y hj nz x hx = elim (ℕ_discrete (c x) 0) [
    | yes z ↦ z
    | no cx ↦
        let u = degree_exists c pc.bound pc.high x cx in
        let t = lead_exists n b _ A (vec_below p n b A vA) j y hj nz in
        let low : e t.0 ≤ t.1 = wb.least t.0 t.2 A vA member t.1 t.3 in
        let up : weight n b t.0 t.1 < weight n b t.0 (u.0 + t.1) = weight_lt n b t.0 t.1 (u.0 + t.1) (omega arith) (omega (arith, u.1)) in
        let zero-there : S t.0 (u.0 + t.1) ≡ 0 = bS t.0 (u.0 + t.1) t.2 (omega (arith, least t.0 t.2, weight_le n b t.0 (e t.0) t.1 low)) in
        absurd (product_nonzero p pr pc.small (λ x. vA.small t.0 x) u.2 (leads→degree t.2 t.3) (sym (prod t.0 (u.0 + t.1)) ∙ zero-there))
  ]
    where
      member : VanishesTo p n F s A
      member y hy = cancel_factor p pr c (dot n A F) (λ x. 0) (pc.small 0) c0 s (λ x hx.
          rw (← dot_assoc n c A F x) (sym (dot_mod p n (λ j. conv c (A j)) F x)
          ∙ (let q : S ≡ (λ j x. conv c (A j) x % p) = fun_ext λ j. fun_ext λ x. prod j x in rw q at (vS x hx)) ∙ sym (rw (conv_none c x) (zero-mod p)))) y hy
          ∙ zero-mod p

-- the vector of two polynomials
pair_vector : (ℕ → ℕ) → (ℕ → ℕ) → Vect
pair_vector r t zero x = r x
pair_vector r t (suc zero) x = t x
pair_vector r t (suc (suc i)) x = 0

vec_pair : {p : ℕ} {r t : ℕ → ℕ} → 0 < p → Polynomial p r → Polynomial p t → IsVec p 2 (pair_vector r t)
unfolding pair_vector
vec_pair {p} {r} {t} hp pr pt = record { small = small; out = out; bound = pr.bound + pt.bound; high = high }
  where
    small : (i x : ℕ) → pair_vector r t i x < p
    small zero x = pr.small x
    small (suc zero) x = pt.small x
    small (suc (suc i)) x = hp

    out : (i x : ℕ) → 2 ≤ i → pair_vector r t i x ≡ 0
    out zero x h = absurd (omega arith)
    out (suc zero) x h = absurd (omega arith)
    out (suc (suc i)) x h = refl

    high : (i x : ℕ) → pr.bound + pt.bound ≤ x → pair_vector r t i x ≡ 0
    high zero x h = pr.high x (omega arith)
    high (suc zero) x h = pt.high x (omega arith)
    high (suc (suc i)) x h = refl

fraction_vanishes : {p k N : ℕ} {g r t : ℕ → ℕ} → Prime p → Fraction p k N g r t → VanishesTo p 2 (pair_series p g) N (pair_vector r t)
unfolding pair_vector
fraction_vanishes {N} {g} {r} {t} pr f = (pair_vanishes N g (pair_vector r t) pr f.numerator.small).1 f.agrees

-- two different numbers below 2 are 0 and 1
both : (f : ℕ → ℕ) (i l : ℕ) → i < 2 → l < 2 → l ≢ i → f i + f l ≡ f 0 + f 1
both f i l hi hl ne = elim (ℕ_discrete i 0) [
  | yes q ↦ let r : l ≡ 1 = omega arith in rw (q, r)
  | no nq ↦ let q : i ≡ 1 = omega arith in let r : l ≡ 0 = omega arith in rw (q, r) (omega arith)
]

module _ {p k N : ℕ} {g r0 t0 : ℕ → ℕ} (pr : Prime p) (one≤k : 1 ≤ k) (k≤N : k ≤ N) (pair : Pair p k N g r0 t0) where
  -- the basis of the pair by weights, with its pivot degrees
  b : ℕ → ℕ
  b = offsets 2 (pair_type k N)

  B : ℕ
  B = base 2 (pair_type k N)

  e : ℕ → ℕ
  e = (pivots_exist pair.approximant.basis).0

  row : ℕ
  row = pair.row

  row<2 : row < 2
  unfolding row
  row<2 = pair.approximant.least.row

  basis : WeightBasis p 2 b (pair_series p g) N pair.rows e
  unfolding b e
  basis = minimal→basis (offset 2 (pair_type k N)) pair.approximant.basis (pivots_exist pair.approximant.basis).1

  least : (l : ℕ) → l < 2 → weight 2 b row (e row) ≤ weight 2 b l (e l)
  unfolding b e row basis
  least = least→basis (offset 2 (pair_type k N)) basis row pair.approximant.least

  offset_is : (i c : ℕ) → i < 2 → pair_type k N i ≡ pos c → b i + c ≡ B
  unfolding b B
  offset_is i c hi q = pos_inj (b i + c) B (ap (λ (z : ℤ). pos (b i) +ℤ z) (sym q) ∙ (offset 2 (pair_type k N)).at i hi)

  first_offset : b 0 + (k - 1) ≡ B
  first_offset = offset_is 0 (k - 1) (omega arith) (type_first k N one≤k k≤N)

  second_offset : b 1 + (N - k) ≡ B
  second_offset = offset_is 1 (N - k) (omega arith) (type_second k N one≤k k≤N)

  -- no common leading zeros: -1 has none
  no_zeros : LeadingZeros p 2 (pair_series p g) N 0
  unfolding pair_series
  no_zeros = record {
    at_most = omega arith;
    zeros = λ x hx. absurd (omega arith);
    next = λ h. (0, omega arith, λ z. (let q : (p - 1) % p ≡ p - 1 = mod-eq_of_lt (omega (arith, pr.above_one)) in omega (arith, pr.above_one)));
  }

  -- the shifted degrees of the two rows add up to 1
  degrees_add_up : (e 0 + b 0) + (e 1 + b 1) ≡ suc (B + B)
  unfolding sum_to
  degrees_add_up =
      let q : 0 + e 0 + e 1 + 0 ≡ N = pivot_sum pr basis 0 no_zeros in
      omega (arith, first_offset, second_offset)

  -- so only the least row has shifted degree at most 0
  only_least : (l : ℕ) → l < 2 → weight 2 b l (e l) < suc B * 2 → l ≡ row
  unfolding weight
  only_least l hl h = elim (ℕ_discrete l row) [
    | yes q ↦ q
    | no nq ↦
        let s : (e row + b row) + (e l + b l) ≡ (e 0 + b 0) + (e 1 + b 1) = both (λ x. e x + b x) row l row<2 hl nq in
        absurd (omega (arith, degrees_add_up, (weight→order 2 b l (e l) row (e row) hl row<2 (least l hl)).0))
  ]

  -- a vector within the degrees has shifted degree at most 0
  within : {r t : ℕ → ℕ} → DegreeBelow r k → DegreeBelow t (N - k + 1) → BelowWeight 2 b (suc B * 2) (pair_vector r t)
  unfolding weight pair_vector
  within hr ht zero x hi h = hr x (omega (arith, first_offset))
  within hr ht (suc zero) x hi h = ht x (omega (arith, second_offset))
  within hr ht (suc (suc i)) x hi h = refl

  first_entry : r0 ≡ pair.rows row 0
  unfolding row
  first_entry = fun_ext λ x. pair.first x

  second_entry : t0 ≡ pair.rows row 1
  unfolding row
  second_entry = fun_ext λ x. pair.second x

  row_multiple : {r t : ℕ → ℕ} → Combination p 1 (λ l. pair.rows row) (pair_vector r t) → PolynomialMultiple p r0 t0 r t
  unfolding combination dot sum_to pair_vector
  row_multiple c = record {
    by = c.by 0;
    polynomial = record { small = λ x. c.vector.small 0 x; bound = c.vector.bound; high = λ x h. c.vector.high 0 x h };
    first = λ x. rw first_entry (c.sum 0 x ∙ rw (zero-add (conv (c.by 0) (pair.rows row 0) x)));
    second = λ x. rw second_entry (c.sum 1 x ∙ rw (zero-add (conv (c.by 0) (pair.rows row 1) x)));
  }

  -- every fraction is a polynomial multiple of the pair
  pub fraction_is_multiple : {r t : ℕ → ℕ} → Fraction p k N g r t → PolynomialMultiple p r0 t0 r t
  fraction_is_multiple {r} {t} f = row_multiple (generated_by_row pr basis row (suc B * 2) only_least (pair_vector r t)
      (vec_pair (omega arith) f.numerator f.denominator) (fraction_vanishes pr f) (within f.numerator_degree f.denominator_degree))

  -- where t0 is 0 at 0, so are its multiples
  pub no_fraction_at_zero : t0 0 ≡ 0 → ¬ HasFraction p k N g
  no_fraction_at_zero z f =
      let m = fraction_is_multiple f.2 in
      f.2.constant (m.second 0 ∙ rw (conv_zero m.by t0, z, mul-zero) (zero-mod p))

  -- the pair scaled so that t(0) = 1 is a fraction with no common factor
  module _ (h : ℕ) (inv : Inverse p (t0 0) h) where
    scaled_one : scaled p h t0 0 ≡ 1
    scaled_one = rw (mul_comm h (t0 0)) inv.product

    scaled_is_fraction : Fraction p k N g (scaled p h r0) (scaled p h t0)
    scaled_is_fraction = record {
      numerator = scaled_polynomial h (omega arith) (numerator_polynomial pr one≤k k≤N pair);
      denominator = scaled_polynomial h (omega arith) (denominator_polynomial pr one≤k k≤N pair);
      numerator_degree = λ x hx. scaled_zero p h r0 x (pair_numerator pr one≤k k≤N pair x hx);
      denominator_degree = λ x hx. scaled_zero p h t0 x (pair_denominator pr one≤k k≤N pair x hx);
      constant = λ z. omega (arith, scaled_one);
      agrees = λ x hx. rw (pair_agrees pr one≤k k≤N pair x hx) (mod_mul_right p h (conv t0 g x) ∙ sym (conv_scaled p h t0 g x));
    }

    scaled_below : BelowWeight 2 b (suc (weight 2 b row (e row))) (pair_vector (scaled p h r0) (scaled p h t0))
    unfolding pair_vector
    scaled_below zero x hi g = scaled_zero p h r0 x (rw first_entry ((basis.lead row row<2).above 0 x (omega arith) g))
    scaled_below (suc zero) x hi g = scaled_zero p h t0 x (rw second_entry ((basis.lead row row<2).above 1 x (omega arith) g))
    scaled_below (suc (suc i)) x hi g = refl

    scaled_coprime : NoCommonFactor p (scaled p h r0) (scaled p h t0)
    unfolding pair_vector
    scaled_coprime c pc fr ft x hx = least_no_factor pr basis row least (pair_vector (scaled p h r0) (scaled p h t0)) (pair_vector fr.quotient ft.quotient) c
        (fraction_vanishes pr scaled_is_fraction) scaled_below pc (vec_pair (omega arith) fr.polynomial ft.polynomial)
        product (λ z. constant (rw (z, zero-mul))) 1 0 (omega arith) (λ z. constant (rw (z, mul-zero))) x (omega arith)
      where
        product : (j x : ℕ) → pair_vector (scaled p h r0) (scaled p h t0) j x ≡ conv c (pair_vector fr.quotient ft.quotient j) x % p
        product zero x = fr.product x
        product (suc zero) x = ft.product x
        product (suc (suc j)) x = sym (rw (conv_none c x) (zero-mod p))

        -- the product of the constant terms is 1
        constant : c 0 * ft.quotient 0 ≢ 0
        constant z =
            let q : scaled p h t0 0 ≡ 0 = ft.product 0 ∙ rw (conv_zero c ft.quotient, z) (zero-mod p) in
            omega (arith, scaled_one)

    pub scaled_pair_is_lowest : LowestFraction p k N g (scaled p h r0) (scaled p h t0)
    scaled_pair_is_lowest = record { fraction = scaled_is_fraction; constant_one = scaled_one; coprime = scaled_coprime }

  -- where t0 is not 0 at 0, its constant has an inverse
  lowest_of_pair : t0 0 ≢ 0 → (r : ℕ → ℕ) × (t : ℕ → ℕ) × LowestFraction p k N g r t
  lowest_of_pair nz =
      let i = inverse_exists p pr (t0 0) (omega arith) ((denominator_polynomial pr one≤k k≤N pair).small 0) in
      (_, _, scaled_pair_is_lowest i.0 i.1)

  pub fraction_exists_exactly : HasFraction p k N g ↔ (t0 0 ≢ 0)
  fraction_exists_exactly = (λ f z. no_fraction_at_zero z f, λ nz. let l = lowest_of_pair nz in (l.0, l.1, l.2.fraction))

  -- a fraction in lowest terms is the pair times a constant, which is the inverse of t0(0)
  module _ {r t : ℕ → ℕ} (low : LowestFraction p k N g r t) where
    multiple : PolynomialMultiple p r0 t0 r t
    multiple = fraction_is_multiple low.fraction

    by_constant : DegreeBelow multiple.by 1
    by_constant = low.coprime multiple.by multiple.polynomial
        (record { quotient = r0; polynomial = numerator_polynomial pr one≤k k≤N pair; product = multiple.first })
        (record { quotient = t0; polynomial = denominator_polynomial pr one≤k k≤N pair; product = multiple.second })

    factor : ℕ
    factor = multiple.by 0

    factor_inverse : Inverse p (t0 0) factor
    unfolding factor
    factor_inverse = record {
      below = multiple.polynomial.small 0;
      product = rw (mul_comm (t0 0) (multiple.by 0), ← conv_zero multiple.by t0) (sym (multiple.second 0) ∙ low.constant_one);
    }

    lowest_is_scaled : (x : ℕ) → (r x ≡ scaled p factor r0 x) × (t x ≡ scaled p factor t0 x)
    unfolding factor
    lowest_is_scaled x = (
      multiple.first x ∙ rw (conv_constant multiple.by r0 x by_constant),
      multiple.second x ∙ rw (conv_constant multiple.by t0 x by_constant),
    )

module _ {p k N : ℕ} {g : ℕ → ℕ} (pr : Prime p) (one≤k : 1 ≤ k) (k≤N : k ≤ N) where
  pub lowest_exists : HasFraction p k N g → (r : ℕ → ℕ) × (t : ℕ → ℕ) × LowestFraction p k N g r t
  lowest_exists f =
      let pair = (pair_exists k N one≤k k≤N p pr g).2 in
      lowest_of_pair pr one≤k k≤N pair ((fraction_exists_exactly pr one≤k k≤N pair).0 f)

  module _ {r t : ℕ → ℕ} (low : LowestFraction p k N g r t) where
    -- every fraction is a polynomial multiple of the one in lowest terms
    pub fraction_of_lowest : {r' t' : ℕ → ℕ} → Fraction p k N g r' t' → PolynomialMultiple p r t r' t'
    fraction_of_lowest f =
        let pair = pair_exists k N one≤k k≤N p pr g in
        let m = fraction_is_multiple pr one≤k k≤N pair.2 f in
        let i = factor_inverse pr one≤k k≤N pair.2 low in
        let q = lowest_is_scaled pr one≤k k≤N pair.2 low in
        let by : ℕ → ℕ = scaled p (pair.1 0) m.by in
        record {
          by = by;
          polynomial = scaled_polynomial (pair.1 0) (omega arith) m.polynomial;
          first = λ x. m.first x ∙ sym (ap (λ (a : ℕ → ℕ). conv by a x % p) (fun_ext λ y. (q y).0) ∙ conv_scaled_back m.by pair.0 x i);
          second = λ x. m.second x ∙ sym (ap (λ (a : ℕ → ℕ). conv by a x % p) (fun_ext λ y. (q y).1) ∙ conv_scaled_back m.by pair.1 x i);
        }

    -- there is one fraction in lowest terms
    pub lowest_unique : {r' t' : ℕ → ℕ} → LowestFraction p k N g r' t' → (x : ℕ) → (r x ≡ r' x) × (t x ≡ t' x)
    lowest_unique low' x =
        let pair = pair_exists k N one≤k k≤N p pr g in
        let q = lowest_is_scaled pr one≤k k≤N pair.2 low x in
        let q' = lowest_is_scaled pr one≤k k≤N pair.2 low' x in
        let same = inverse_unique p (pair.1 0) _ _ (factor_inverse pr one≤k k≤N pair.2 low) (factor_inverse pr one≤k k≤N pair.2 low') in
        (q.0 ∙ ap (λ (h : ℕ). scaled p h pair.0 x) same ∙ sym q'.0, q.1 ∙ ap (λ (h : ℕ). scaled p h pair.1 x) same ∙ sym q'.1)
