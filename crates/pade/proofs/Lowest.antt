-- The least row divided by the constant term of its t is the fraction in lowest terms; where that term is zero there is no fraction.
use mathlib.Core.Path.{◌≡◌, refl, sym, ◌∙◌, fun_ext}
use mathlib.Core.List.{List}
use Prim.Native.Nat.{ℕ, ◌+◌, ◌*◌, ◌≤◌, ◌<◌}
use native.Mathlib.Nat.{mul-zero, zero-mul, one-mul, zero-mod}
use native.Mathlib.Decide.{dec_lt}
use native.Mathlib.Omega.{arith}
use lib.ListN.{length, take, drop, length-drop}
use Rattle.std.specs.Prelude.{Result, Ok, Err}
use Rattle.std.proofs.lemmas.List.{take_all}
use Rattle.field.specs.declared.Refusal.{Refusal}
use Rattle.words.specs.Polynomial.{poly}
use Rattle.words.specs.Part.{part}
use Rattle.words.proofs.Part.{part_fits, part_length}
use Rattle.relation.specs.Degree.{DegreeBelow}
use Rattle.relation.specs.Operations.{scaled}
use Rattle.relation.proofs.Pair.{pair_numerator, pair_denominator, denominator_polynomial}
use Rattle.relation.proofs.Fraction.{no_fraction_at_zero, scaled_pair_is_lowest}
use Rattle.row.specs.View.{vector, row}
use Rattle.row.proofs.Part.{poly_past}
use Rattle.pade.specs.Pair.{PairWritten}
use Rattle.pade.specs.PairSizes.{PairSizes, PairLent}
use Rattle.pade.specs.Work.{LeastPair, Scaled, Divided, DividedUnlessZero, FractionOrNone}

-- words that hold all coefficients of a multiple
scaled_words : {p h m : ℕ} {from into : List ℕ} → Scaled p h from into m → DegreeBelow (poly from) m → poly into ≡ scaled p h (poly from)
scaled_words {p} {h} {m} {from} {into} s ends = fun_ext λ x. elim (dec_lt x m) [
  | yes l ↦ s.at x l
  | no l ↦ poly_past into x (omega (arith, s.same)) ∙ sym (rw (ends x (omega arith), mul-zero) (zero-mod p))
]

-- entry j of row i, as words
abbrev pub entry_words : List ℕ → List ℕ → ℕ → ℕ → List ℕ
entry_words g basis i j = part (length g + 1) j (part (2 * (length g + 1)) i basis)

-- the row lies in the basis, and each entry in the row
module _ {p k : ℕ} {g basis : List ℕ} {i : ℕ} (f : LeastPair p k g basis i) where
  row_fits : i * (2 * (length g + 1)) + 2 * (length g + 1) ≤ length basis
  row_fits = rw f.full (part_fits 2 (2 * (length g + 1)) i f.row_of_two)

  pub row_length : length (part (2 * (length g + 1)) i basis) ≡ 2 * (length g + 1)
  row_length = part_length (2 * (length g + 1)) i basis row_fits

  pub entry_length : (j : ℕ) → j < 2 → length (entry_words g basis i j) ≡ length g + 1
  entry_length j h = part_length (length g + 1) j (part (2 * (length g + 1)) i basis) (rw row_length (part_fits 2 (length g + 1) j h))

  -- cut in two, it is its entries
  pub front_is : take (length g + 1) (part (2 * (length g + 1)) i basis) ≡ entry_words g basis i 0
  unfolding part
  front_is = rw zero-mul refl

  pub back_is : drop (length g + 1) (part (2 * (length g + 1)) i basis) ≡ entry_words g basis i 1
  unfolding part
  back_is =
      let w = length g + 1 in
      let r = part (2 * w) i basis in
      sym (rw (one-mul w) (take_all w (drop w r) (omega (arith, length-drop w r, row_length))))

  pub constant_small : PairSizes p k g → poly (entry_words g basis i 1) 0 < p
  unfolding row vector
  constant_small z = (denominator_polynomial z.modulus.prime z.k_from z.k_to f.pair).small 0

module _ {p k : ℕ} {g basis : List ℕ} {i : ℕ} (f : LeastPair p k g basis i) (r t : List ℕ) (z : PairLent p k g (length r) (length t)) where
  written : {r' t' : List ℕ} → Divided p (entry_words g basis i 0) (entry_words g basis i 1) r t r' t' → PairWritten p k g r' t'
  unfolding row vector
  written {r'} {t'} d =
      let s = z.sizes in
      let pr = s.modulus.prime in
      let er = scaled_words d.first (rw z.r_words (pair_numerator pr s.k_from s.k_to f.pair)) in
      let et = scaled_words d.second (rw z.t_words (pair_denominator pr s.k_from s.k_to f.pair)) in
      record {
        r_words = d.first.same ∙ z.r_words;
        t_words = d.second.same ∙ z.t_words;
        lowest = rw (er, et) (scaled_pair_is_lowest pr s.k_from s.k_to f.pair d.factor d.inverse);
      }

  pub fraction_or_none : (said : Result Unit Refusal) (r' t' : List ℕ) → DividedUnlessZero p (entry_words g basis i 0) (entry_words g basis i 1) r t said r' t' → FractionOrNone p k g r t said r' t'
  unfolding row vector
  fraction_or_none (Ok u) r' t' d = written d
  fraction_or_none (Err e) r' t' b =
      let s = z.sizes in
      (b.0, no_fraction_at_zero s.modulus.prime s.k_from s.k_to f.pair b.1, b.2, b.3)
