-- What the public functions of the step answer and leave is one: two outcomes that meet the contract are equal.
--   least_row_unique       least_row
--   reduced_basis_words    reduced_basis
use mathlib.Core.Path.{◌≡◌, refl, ap, sym, ◌∙◌}
use mathlib.Core.List.{List}
use Prim.Native.Nat.{ℕ, ◌*◌, ◌<◌}
use native.Mathlib.Nat.{zero-mul, le_antisymm}
use native.Mathlib.Decide.{dec_lt}
use native.Mathlib.Omega.{arith}
use lib.ListN.{length}
use lib.Seq.{ext_get_or}
use Rattle.std.specs.Prelude.{Option, None, Some}
use Rattle.relation.specs.Vector.{Vect}
use Rattle.relation.proofs.Weight.{weight_inj}
use Rattle.relation.specs.ReducedBasis.{ReducedBasis}
use Rattle.relation.proofs.Basis.{same_pivots, unique}
use Rattle.degree.specs.declared.Degree.{Degree}
use Rattle.row.specs.View.{row, degree_at}
use Rattle.row.proofs.Part.{poly_past}
use Rattle.row.proofs.Rows.{list_ext, rows_ext}
use Rattle.step.specs.Offset.{offset_of, row_weight, TopsEndAt}
use Rattle.step.specs.Search.{LeastAmong}

-- no two rows have one weight
pub least_row_unique : (n : ℕ) (flag : ℕ → ℕ) (d : List ℕ) (tops : List Degree) (r r' : Option ℕ)
    → LeastAmong n flag (row_weight n d tops) r → LeastAmong n flag (row_weight n d tops) r' → r ≡ r'
least_row_unique n flag d tops (Some i) (Some j) a b =
    let e : row_weight n d tops i ≡ row_weight n d tops j = le_antisymm (a.least j b.row< b.nonzero) (b.least i a.row< a.nonzero) in
    ap Some (weight_inj n (offset_of d) i (degree_at tops i) j (degree_at tops j) a.row< b.row< e).0
least_row_unique n flag d tops (Some i) None a b = absurd (a.nonzero (b i a.row<))
least_row_unique n flag d tops None (Some j) a b = absurd (b.nonzero (a j b.row<))
least_row_unique n flag d tops None None a b = refl

degrees_ext : (t u : List Degree) → length t ≡ length u → ((l : ℕ) → degree_at t l ≡ degree_at u l) → t ≡ u
degrees_ext t u e h = ext_get_or (record { 0 = 0 }) t u e (λ l g. ap (λ (x : ℕ). record { 0 = x }) (h l))

pub reduced_basis_words : {p n w s : ℕ} {b : ℕ → ℕ} {F : Vect} {xs ys : List ℕ} {t u : List Degree} → 0 < w
    → length xs ≡ n * (n * w) → length ys ≡ n * (n * w) → length t ≡ length u
    → ReducedBasis p n b F s (row n w xs) (degree_at t) × TopsEndAt n t → ReducedBasis p n b F s (row n w ys) (degree_at u) × TopsEndAt n u
    → (xs ≡ ys) × (t ≡ u)
reduced_basis_words {p} {n} {w} {s} {b} {F} {xs} {ys} {t} {u} hw full full' same a a' = (
  elim (dec_lt 0 n) [
    | yes hn ↦ rows_ext n w xs ys hn hw full full' (λ i hi k x. ap (λ (P : Vect). P k x) (unique a.0 a'.0 i hi))
    | no g ↦
        let z : n * (n * w) ≡ 0 = (let q : n ≡ 0 = omega arith in rw q (zero-mul (0 * w))) in
        list_ext xs ys (full ∙ sym full') (λ x. poly_past xs x (omega arith) ∙ sym (poly_past ys x (omega arith)))
  ],
  degrees_ext t u same (λ l. elim (dec_lt l n) [
    | yes h ↦ same_pivots a.0.basis a'.0.basis l h
    | no h ↦ a.1 l (omega arith) ∙ sym (a'.1 l (omega arith))
  ]),
)
