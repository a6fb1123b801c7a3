-- What the parts of the pair call leave: the least row of -1 and g, words divided by a constant term, a fraction or none.
use Rattle.std.specs.Prelude.{◌≡◌, Result, Ok, Err, List, ℕ, ◌+◌, ◌<◌, length}
use Rattle.field.specs.declared.Refusal.{Refusal}
use Rattle.field.specs.Inverse.{Inverse}
use Rattle.words.specs.Polynomial.{poly}
use Rattle.sizes.specs.Lengths.{basis_length}
use Rattle.relation.specs.Operations.{scaled}
use Rattle.relation.specs.Pair.{Pair}
use Rattle.relation.specs.Fraction.{HasFraction}
use Rattle.row.specs.View.{row}
use Rattle.pade.specs.Pair.{PairWritten}

-- row i of the two in `basis` is the pair
pub record LeastPair (p k : ℕ) (g basis : List ℕ) (i : ℕ) : Type 0 where
  pub full : length basis ≡ basis_length 2 (length g)
  pub row_of_two : i < 2
  pub pair : Pair p k (length g) (poly g) (row 2 (length g + 1) basis i 0) (row 2 (length g + 1) basis i 1)

-- the words of `into` are h times the first ones of `from`
pub record Scaled (p h : ℕ) (from into : List ℕ) (words : ℕ) : Type 0 where
  pub same : length into ≡ words
  pub at : (x : ℕ) → x < words → poly into x ≡ scaled p h (poly from) x

-- a and b divided by the constant term of b
pub record Divided (p : ℕ) (a b r t r' t' : List ℕ) : Type 0 where
  pub factor : ℕ
  pub inverse : Inverse p (poly b 0) factor
  pub first : Scaled p factor a r' (length r)
  pub second : Scaled p factor b t' (length t)

-- they are written to r and t, unless that term is zero
abbrev pub DividedUnlessZero : ℕ → List ℕ → List ℕ → List ℕ → List ℕ → Result Unit Refusal → List ℕ → List ℕ → Type 0
DividedUnlessZero p a b r t (Ok u) r' t' = Divided p a b r t r' t'
DividedUnlessZero p a b r t (Err e) r' t' = (e ≡ Refusal.NoFraction) × (poly b 0 ≡ 0) × (r' ≡ r) × (t' ≡ t)

-- a fraction is written to r and t, or there is none
abbrev pub FractionOrNone : ℕ → ℕ → List ℕ → List ℕ → List ℕ → Result Unit Refusal → List ℕ → List ℕ → Type 0
FractionOrNone p k g r t (Ok u) r' t' = PairWritten p k g r' t'
FractionOrNone p k g r t (Err e) r' t' = (e ≡ Refusal.NoFraction) × (¬ (HasFraction p k (length g) (poly g))) × (r' ≡ r) × (t' ≡ t)
