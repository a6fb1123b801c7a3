-- Offsets: what is added to a degree so that the order of rows is one of natural numbers, 255 - d_i for the type entry d_i.
use Rattle.std.specs.Prelude.{◌≡◌, List, ℕ, ◌≤◌, ◌<◌, length, get_or}
use Rattle.sizes.specs.Entry.{type_of, EntryOutside}
use Rattle.degree.specs.declared.Degree.{Degree}
use Rattle.row.specs.View.{degree_at}
use Rattle.relation.specs.Weight.{less, weight}

unfoldable pub offset_of : List ℕ → ℕ → ℕ
offset_of d i = less 255 (type_of d i)

-- the rows' order: by shifted degree, then by type
abbrev pub row_weight : ℕ → List ℕ → List Degree → ℕ → ℕ
row_weight n d tops l = weight n (offset_of d) l (degree_at tops l)

-- n words, each of which says a type entry that is admitted
pub record TypeWords (n : ℕ) (d : List ℕ) : Type 0 where
  pub count : length d ≡ n
  pub inside : (i : ℕ) → i < n → ¬ EntryOutside (get_or d i 0)

-- pivot degrees of n rows, none above s
abbrev pub TopsWithin : ℕ → ℕ → List Degree → Type 0
TopsWithin n s tops = (l : ℕ) → l < n → degree_at tops l ≤ s

-- past the n rows there is 0
abbrev pub TopsEndAt : ℕ → List Degree → Type 0
TopsEndAt n tops = (l : ℕ) → n ≤ l → degree_at tops l ≡ 0
