-- What a found basis tells.
--   words_tell_relations, words_tell_numbers     two bases of one type: the words, the relations, the least row and the count
--   found_unique                                 one set of series has one basis
--   relations_are_combinations, in_one_way       what the rows generate
--   count_is                                     the count is s - m
use mathlib.Core.Path.{◌≡◌, ap, sym, ◌∙◌, subst}
use mathlib.Core.Logic.{◌↔◌}
use mathlib.Core.List.{List}
use Prim.Native.Nat.{ℕ, ◌+◌, ◌-◌, ◌<◌}
use native.Mathlib.Omega.{arith}
use Rattle.field.specs.Prime.{Prime}
use Rattle.relation.specs.Vector.{Vect}
use Rattle.relation.specs.Relation.{Relation}
use Rattle.relation.specs.SameRelations.{SameRelations}
use Rattle.relation.specs.LeadingZeros.{LeadingZeros}
use Rattle.relation.specs.Combination.{Combination}
use Rattle.relation.specs.Pivot.{Pivot}
use Rattle.relation.specs.Approximant.{LeastRow}
use Rattle.relation.proofs.Theorems.{SameRows, same_relations_same_rows, members_are_combinations, one_combination, basis_shrink_count, least_unique, reduced_basis_unique, least_row_same}
use Rattle.relation.proofs.Bridge.{pivots_exist}
use Rattle.relation.proofs.Shrink.{shrink_count, count_unique}
use Rattle.row.specs.View.{vector, row}
use Rattle.sizes.specs.Entry.{type_of}
use Rattle.solve.specs.Found.{BasisFound}
use Rattle.row.proofs.Rows.{rows_ext}

same_rows : (n w : ℕ) (xs ys : List ℕ) → xs ≡ ys → SameRows n (row n w xs) (row n w ys)
same_rows n w xs ys e i hi k t = ap (λ (l : List ℕ). row n w l i k t) e

module _ {p n s : ℕ} {d F G xs ys : List ℕ} {i j c c' : ℕ} (pr : Prime p) (a : BasisFound p n s d F xs i c) (b : BasisFound p n s d G ys j c') where
  -- the same words exactly where the relations agree
  pub words_tell_relations : 0 < n → (xs ≡ ys) ↔ SameRelations p n (vector s F) (vector s G) s
  words_tell_relations hn =
      let same = same_relations_same_rows pr a.minimal a.reduced b.minimal b.reduced in (
        λ e. same.0 (same_rows n (s + 1) xs ys e),
        λ h. rows_ext n (s + 1) xs ys hn (omega arith) a.full b.full (same.1 h),
      )

  -- the least row and the count are read off the words
  pub words_tell_numbers : xs ≡ ys → (i ≡ j) × (c ≡ c')
  words_tell_numbers e =
      let least : LeastRow n (type_of d) (row n (s + 1) ys) i = subst (λ (l : List ℕ). LeastRow n (type_of d) (row n (s + 1) l) i) e a.least_row in
      let t = pivots_exist a.minimal in
      let pivots : (k : ℕ) → k < n → Pivot (row n (s + 1) ys) k (t.0 k) = subst (λ (l : List ℕ). (k : ℕ) → k < n → Pivot (row n (s + 1) l) k (t.0 k)) e t.1 in
      let mine = count_unique a.shrinks (basis_shrink_count pr a.minimal t.0 t.1) in
      let other = count_unique b.shrinks (basis_shrink_count pr b.minimal t.0 pivots) in
      (least_unique least b.least_row, mine ∙ sym other)

pub found_unique : {p n s : ℕ} {d F xs ys : List ℕ} {i j c c' : ℕ} → 0 < n
    → BasisFound p n s d F xs i c → BasisFound p n s d F ys j c' → (xs ≡ ys) × (i ≡ j) × (c ≡ c')
found_unique {n} {s} {xs} {ys} hn a b =
    let rows = reduced_basis_unique a.minimal a.reduced b.minimal b.reduced in (
      rows_ext n (s + 1) xs ys hn (omega arith) a.full b.full rows,
      least_row_same a.minimal b.minimal a.least_row b.least_row,
      count_unique a.shrinks b.shrinks,
    )

module _ {p n s : ℕ} {d F xs : List ℕ} {i c : ℕ} (pr : Prime p) (f : BasisFound p n s d F xs i c) where
  -- every relation is a combination of the rows, and in exactly one way
  pub relations_are_combinations : (P : Vect) → Relation p n (vector s F) s P ↔ Combination p n (row n (s + 1) xs) P
  relations_are_combinations = members_are_combinations pr f.minimal

  pub in_one_way : (P : Vect) (a b : Combination p n (row n (s + 1) xs) P) → a.by ≡ b.by
  in_one_way = one_combination pr f.minimal

  -- how many orders made V smaller: s less the common leading zeros
  pub count_is : (m : ℕ) → LeadingZeros p n (vector s F) s m → c ≡ s - m
  count_is m z = count_unique f.shrinks (shrink_count pr z)
