-- A list that is cut into parts is told by its parts, and a basis by its rows.
use mathlib.Core.Path.{◌≡◌, ap, sym, ◌∙◌}
use mathlib.Core.List.{List}
use Prim.Native.Nat.{ℕ, ◌*◌, ◌/◌, ◌%◌, ◌<◌}
use native.Mathlib.Nat.{div-add-mod', div-lt_iff_lt-mul, mod-lt, mul-pos}
use native.Mathlib.Omega.{arith}
use lib.ListN.{length}
use lib.Seq.{ext_get_or}
use Rattle.relation.proofs.Theorems.{SameRows}
use Rattle.words.specs.Polynomial.{poly}
use Rattle.row.specs.View.{vector, row}
use Rattle.words.specs.Part.{part}
use Rattle.words.proofs.Part.{part_fits, part_length}
use Rattle.row.proofs.Part.{part_at}

pub list_ext : (xs ys : List ℕ) → length xs ≡ length ys → ((t : ℕ) → poly xs t ≡ poly ys t) → xs ≡ ys
unfolding poly
list_ext xs ys e h = ext_get_or 0 xs ys e (λ t g. h t)

-- the word at x stands in part x / w, at x % w
place : (w x : ℕ) (xs : List ℕ) → 0 < w → poly (part w (x / w) xs) (x % w) ≡ poly xs x
place w x xs h = part_at w (x / w) xs (x % w) (mod-lt x h) ∙ ap (poly xs) (div-add-mod' x w)

pub parts_ext : (n w : ℕ) (xs ys : List ℕ) → 0 < w → length xs ≡ n * w → length ys ≡ n * w → ((k : ℕ) → k < n → part w k xs ≡ part w k ys) → xs ≡ ys
unfolding poly
parts_ext n w xs ys h e e' same = ext_get_or 0 xs ys (e ∙ sym e') (λ x g.
    sym (place w x xs h)
    ∙ ap (λ (l : List ℕ). poly l (x % w)) (same (x / w) ((div-lt_iff_lt-mul h).1 (omega arith)))
    ∙ place w x ys h)

pub vector_ext : (n w : ℕ) (xs ys : List ℕ) → 0 < w → length xs ≡ n * w → length ys ≡ n * w → ((k t : ℕ) → vector w xs k t ≡ vector w ys k t) → xs ≡ ys
unfolding vector
vector_ext n w xs ys h e e' same = parts_ext n w xs ys h e e' (λ k g.
    list_ext (part w k xs) (part w k ys) (full xs e k g ∙ sym (full ys e' k g)) (same k))
  where
    full : (zs : List ℕ) → length zs ≡ n * w → (k : ℕ) → k < n → length (part w k zs) ≡ w
    full zs q k g = part_length w k zs (omega (arith, part_fits n w k g))

pub rows_ext : (n w : ℕ) (xs ys : List ℕ) → 0 < n → 0 < w → length xs ≡ n * (n * w) → length ys ≡ n * (n * w) → SameRows n (row n w xs) (row n w ys) → xs ≡ ys
unfolding row
rows_ext n w xs ys hn h e e' same = parts_ext n (n * w) xs ys (mul-pos hn h) e e' (λ i g.
    vector_ext n w (part (n * w) i xs) (part (n * w) i ys) h (full xs e i g) (full ys e' i g) (same i g))
  where
    full : (zs : List ℕ) → length zs ≡ n * (n * w) → (i : ℕ) → i < n → length (part (n * w) i zs) ≡ n * w
    full zs q i g = part_length (n * w) i zs (omega (arith, part_fits n (n * w) i g))
