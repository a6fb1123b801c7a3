-- What the public functions on rows leave is one list of words: two outcomes that meet the contract are equal.
--   zeros_unique   words that are all zero, as std's fill leaves them
--   row_unique     add_row_multiple, row_times_x, unit_row: each gives the length and the row as a vector
use mathlib.Core.Path.{◌≡◌, ap, sym, ◌∙◌}
use mathlib.Core.List.{List}
use Prim.Native.Nat.{ℕ, ◌*◌}
use native.Mathlib.Nat.{mul-zero}
use native.Mathlib.Decide.{dec_lt}
use native.Mathlib.Omega.{arith}
use lib.ListN.{length}
use Rattle.words.specs.Polynomial.{poly}
use Rattle.relation.specs.Vector.{Vect}
use Rattle.row.specs.View.{vector}
use Rattle.row.proofs.Part.{poly_past}
use Rattle.row.proofs.Rows.{list_ext, vector_ext}

pub zeros_unique : (xs ys : List ℕ) → length xs ≡ length ys → ((t : ℕ) → poly xs t ≡ 0) → ((t : ℕ) → poly ys t ≡ 0) → xs ≡ ys
zeros_unique xs ys e h h' = list_ext xs ys e (λ t. h t ∙ sym (h' t))

pub row_unique : (n w : ℕ) (P : Vect) (xs ys : List ℕ) → length xs ≡ n * w → length ys ≡ n * w → vector w xs ≡ P → vector w ys ≡ P → xs ≡ ys
row_unique n w P xs ys e e' h h' = elim (dec_lt 0 w) [
  | yes g ↦ vector_ext n w xs ys g e e' (λ k t. ap (λ (Q : Vect). Q k t) (h ∙ sym h'))
  | no g ↦
      let z : n * w ≡ 0 = (let q : w ≡ 0 = omega arith in rw q (mul-zero n)) in
      list_ext xs ys (e ∙ sym e') (λ t. poly_past xs t (omega arith) ∙ sym (poly_past ys t (omega arith)))
]
