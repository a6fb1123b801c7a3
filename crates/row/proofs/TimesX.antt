-- X times an entry of words.
use mathlib.Core.Path.{◌≡◌, refl, ap, sym, ◌∙◌}
use mathlib.Core.List.{List, [], ◌∷◌, ◌++◌}
use Prim.Native.Nat.{ℕ, zero, suc, ◌+◌, ◌-◌, ◌≤◌, ◌<◌}
use native.Mathlib.Decide.{ℕ_discrete, dec_lt}
use native.Mathlib.Omega.{arith}
use lib.ListN.{length, set, take, drop, get_or-append, length-append, length-take, length-drop, length-set}
use lib.Seq.{get_or-take}
use borrow.Rule.Slice.PartMut.{put_mid, same_len_mid}
use Rattle.relation.specs.Vector.{Vect}
use Rattle.relation.specs.Operations.{times_x}
use Rattle.words.specs.Polynomial.{poly}
use Rattle.row.proofs.Part.{poly_past}

times_x_end : (xs : List ℕ) (t : ℕ) → 0 < length xs → poly xs (length xs - 1) ≡ 0 → length xs ≤ t → times_x (λ _. poly xs) 0 t ≡ 0
unfolding times_x
times_x_end xs zero h z g = absurd (omega arith)
times_x_end xs (suc t) h z g = elim (ℕ_discrete t (length xs - 1)) [ yes e ↦ rw e z | no ne ↦ poly_past xs t (omega arith) ]

-- behind the 0 stand the words of the entry but the last
pub times_x_words : (xs into ys : List ℕ) (m : ℕ) → 0 < length xs → length into ≡ length xs → poly xs (length xs - 1) ≡ 0 → ys ≡ take (length xs - 1) xs → length xs ≤ m + 1
    → (t : ℕ) → poly (put_mid 1 m (set into 0 0) ys) t ≡ times_x (λ _. poly xs) 0 t
unfolding times_x poly
times_x_words xs [] ys m h e z f g t = absurd (omega (arith, e))
times_x_words xs (x ∷ into) ys m h e z f g zero = refl
times_x_words xs (x ∷ into) ys m h e z f g (suc t) =
    let full : length ys ≡ length xs - 1 = omega (arith, ap length f, length-take (length xs - 1) xs) in
    elim (dec_lt t (length ys)) [
      | yes l ↦ get_or-append ys (drop m into) 0 t l ∙ rw f (get_or-take (length xs - 1) xs t 0 (omega arith))
      | no l ↦ poly_past (ys ++ drop m into) t (omega (arith, length-append ys (drop m into), length-drop m into)) ∙ sym (times_x_end xs (suc t) h z (omega arith))
    ]

-- and they are as many
pub shifted : (xs into ys : List ℕ) (m : ℕ) → 0 < length xs → length into ≡ length xs → poly xs (length xs - 1) ≡ 0 → ys ≡ take (length xs - 1) xs → m ≡ length xs - 1
    → (length (put_mid 1 m (set into 0 0) ys) ≡ length into) × ((t : ℕ) → poly (put_mid 1 m (set into 0 0) ys) t ≡ times_x (λ _. poly xs) 0 t)
shifted xs into ys m h e z f g =
    let same = length-set into 0 0 in
    let rest : length (drop 1 (set into 0 0)) ≡ length xs - 1 = omega (arith, same, length-drop 1 (set into 0 0)) in
    let full : length ys ≡ length (take m (drop 1 (set into 0 0))) = omega (arith, ap length f, length-take (length xs - 1) xs, rest, length-take m (drop 1 (set into 0 0))) in
    (same_len_mid 1 m (set into 0 0) ys full ∙ same, times_x_words xs into ys m h e z f (omega arith))

-- X times a vector is X times each entry
pub times_x_entry : (P : Vect) (k t : ℕ) → times_x (λ _. P k) 0 t ≡ times_x P k t
unfolding times_x
times_x_entry P k zero = refl
times_x_entry P k (suc t) = refl

pub times_x_zero : (P : Vect) (k : ℕ) → ((t : ℕ) → P k t ≡ 0) → (t : ℕ) → times_x P k t ≡ 0
unfolding times_x
times_x_zero P k z zero = refl
times_x_zero P k z (suc t) = z t
