-- The computed test of a modulus is true exactly where the number is an admitted one; so that is decided.
use Rattle.std.proofs.Common.{◌≡◌, ℕ, zero, suc, ◌+◌, ◌-◌, ◌%◌, ◌<◌, ◌≤◌, Bool, true, false, ◌↔◌, refl, mul-le-mul, arith, ltb-true, lt-ltb, eq-eqb, eqb-true, le-leb, leb-true}
use native.Mathlib.Decide.{ℕ_discrete}
use Rattle.field.specs.Prime.{Prime}
use Rattle.field.specs.Modulus.{largest, Modulus}
use Rattle.field.specs.ModulusTest.{none_divides, is_modulus}
use Rattle.field.proofs.Truth.{shown, both, negated, fails}
use Rattle.field.proofs.Trial.{NoneBelow, mod_divides, divides_mod, composite, past_root}

none_test : (n k : ℕ) → (none_divides n k ≡ true) ↔ NoneBelow n (2 + k)
unfolding none_divides
none_test n zero = shown (λ d u v h. omega arith)
none_test n (suc k) =
    let t = both _ _ (negated _ (eqb-true (n % (2 + k)) 0, eq-eqb (n % (2 + k)) 0)) (none_test n k) in
    (λ e. more (t.0 e).0 (t.0 e).1, λ none. t.1 (not_last none, λ d u v. none d u (omega arith)))
  where
    not_last : NoneBelow n (2 + suc k) → ¬ (n % (2 + k) ≡ 0)
    not_last none z = none (2 + k) (omega arith) (omega arith) (mod_divides (2 + k) n z)

    more : ¬ (n % (2 + k) ≡ 0) → NoneBelow n (2 + k) → NoneBelow n (2 + suc k)
    more nd none d u v h = elim (ℕ_discrete d (2 + k)) [
      | yes e ↦ nd (divides_mod (2 + k) n (rw e at h))
      | no ne ↦ none d u (omega arith) h
    ]

none_prime : (n : ℕ) → 1 < n → NoneBelow n n → Prime n
none_prime n u none = past_root n n u u (omega (arith, mul-le-mul {n₁ = 2} {m₁ = n} {n₂ = n} {m₂ = n} (omega arith) (omega arith))) none

prime_none : (n : ℕ) → Prime n → NoneBelow n n
prime_none n pr d u v h = composite n d u v (divides_mod d n h) pr

pub modulus_test : (p : ℕ) → (is_modulus p ≡ true) ↔ Modulus p
unfolding is_modulus
modulus_test p =
    let t = both _ _ (both _ _ (ltb-true 1 p, lt-ltb 1 p) (leb-true p largest, le-leb p largest)) (none_test p (p - 2)) in
    (λ e. admitted (t.0 e).0.0 (t.0 e).0.1 (t.0 e).1, λ m. t.1 ((m.prime.above_one, m.at_most), to_last m.prime))
  where
    admitted : 1 < p → p ≤ largest → NoneBelow p (2 + (p - 2)) → Modulus p
    admitted u l none = record { prime = none_prime p u (λ d v w. none d v (omega arith)); at_most = l }

    to_last : Prime p → NoneBelow p (2 + (p - 2))
    to_last pr d u v = prime_none p pr d u (omega (arith, pr.above_one))

pub modulus_decided : (p : ℕ) → Dec (Modulus p)
modulus_decided p = go (is_modulus p) (modulus_test p)
  where
    go : (t : Bool) → (t ≡ true) ↔ Modulus p → Dec (Modulus p)
    go true i = yes (i.0 refl)
    go false i = no (fails false i refl)
