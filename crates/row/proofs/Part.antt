-- Parts as polynomials: what stands in part k, and a list of n parts as a vector.
use mathlib.Core.Path.{◌≡◌, refl, ap, sym, ◌∙◌, fun_ext}
use mathlib.Core.List.{List, [], ◌∷◌}
use Prim.Native.Nat.{ℕ, zero, suc, ◌+◌, ◌*◌, ◌-◌, ◌≤◌, ◌<◌}
use native.Mathlib.Nat.{mul-le-mul_right}
use native.Mathlib.Decide.{dec_lt}
use native.Mathlib.Omega.{arith}
use lib.ListN.{length, get_or, take, drop, length-take, length-drop}
use lib.Seq.{get_or-take, get_or-drop}
use Rattle.words.specs.Part.{part}
use Rattle.words.proofs.Part.{lent}
use Rattle.relation.specs.Vector.{Vect}
use Rattle.words.specs.Polynomial.{poly}
use Rattle.degree.specs.declared.Degree.{Degree}
use Rattle.row.specs.View.{vector, degree_at}

pub part_at : (w k : ℕ) (xs : List ℕ) (t : ℕ) → t < w → poly (part w k xs) t ≡ poly xs (k * w + t)
unfolding part poly
part_at w k xs t h = get_or-take w (drop (k * w) xs) t 0 h ∙ get_or-drop (k * w) xs t 0

pub poly_past : (xs : List ℕ) (t : ℕ) → length xs ≤ t → poly xs t ≡ 0
unfolding poly
poly_past [] t h = refl
poly_past (x ∷ xs) zero h = absurd (omega arith)
poly_past (x ∷ xs) (suc t) h = poly_past xs t (omega arith)

pub lent_poly : (w k : ℕ) (xs : List ℕ) (t : ℕ) → poly (take (k * w + w - k * w) (drop (k * w) xs)) t ≡ vector w xs k t
unfolding vector
lent_poly w k xs t = ap (λ (l : List ℕ). poly l t) (lent w k xs)

pub vector_at : (w k : ℕ) (xs : List ℕ) (t : ℕ) → t < w → get_or xs (k * w + t) 0 ≡ vector w xs k t
unfolding vector poly
vector_at w k xs t h = sym (part_at w k xs t h)

-- past the last of n parts there is nothing
pub vector_out : (n w : ℕ) (xs : List ℕ) → length xs ≡ n * w → (k t : ℕ) → n ≤ k → vector w xs k t ≡ 0
unfolding vector part
vector_out n w xs e k t h =
    let g : n * w ≤ k * w = mul-le-mul_right w h in
    let z : length (take w (drop (k * w) xs)) ≤ 0 = omega (arith, length-take w (drop (k * w) xs), length-drop (k * w) xs) in
    poly_past (take w (drop (k * w) xs)) t (omega arith)

-- a list of n parts is a vector, entry by entry
pub row_ext : (n w : ℕ) (xs : List ℕ) (P : Vect) → length xs ≡ n * w → ((k : ℕ) → k < n → (t : ℕ) → poly (part w k xs) t ≡ P k t)
    → ((k t : ℕ) → n ≤ k → P k t ≡ 0) → vector w xs ≡ P
unfolding vector
row_ext n w xs P e inside outside = fun_ext λ k. fun_ext λ t. elim (dec_lt k n) [
  | yes h ↦ inside k h t
  | no h ↦ vector_out n w xs e k t (omega arith) ∙ sym (outside k t (omega arith))
]

-- and past the width of a part neither
pub vector_high : (w : ℕ) (xs : List ℕ) (k t : ℕ) → w ≤ t → vector w xs k t ≡ 0
unfolding vector part
vector_high w xs k t h = poly_past (take w (drop (k * w) xs)) t (omega (arith, length-take w (drop (k * w) xs)))

-- the first n pivot degrees are those of the n rows
pub front_degree : (n k : ℕ) (tops : List Degree) → k < n → degree_at (take n tops) k ≡ degree_at tops k
front_degree n k tops h = ap (λ (x : Degree). x.0) (get_or-take n tops k (record { 0 = 0 }) h)
