-- Parts of a list that is cut into parts of w words: how long they are, and how writing one changes the whole.
--   part_fits, part_before, part_length     where part k lies
--   lent, lent_length                       the part that code lends, `&l[k * w..k * w + w]`
--   put_length, put_same, put_other         the whole after part k was written
use mathlib.Core.Path.{◌≡◌, ap, sym, ◌∙◌}
use mathlib.Core.Logic.{◌≢◌}
use mathlib.Core.List.{List, ◌++◌}
use Prim.Native.Nat.{ℕ, suc, ◌+◌, ◌*◌, ◌-◌, ◌≤◌, ◌<◌}
use native.Mathlib.Nat.{suc-mul, mul-le-mul_right}
use native.Mathlib.Decide.{dec_lt}
use native.Mathlib.Omega.{arith}
use lib.ListN.{length, take, drop, length-drop, take-append-drop}
use lib.Seq.{length-take-le, take-append-le, drop-append-le, take_at, drop_at, drop-drop}
use borrow.Rule.Slice.PartMut.{put_mid, same_len_mid, drop_put}
use Rattle.words.specs.Part.{part}

-- part k of n
pub part_fits : (n w k : ℕ) → k < n → k * w + w ≤ n * w
part_fits n w k h = omega (arith, suc-mul k w, mul-le-mul_right {m = suc k} {n = n} w h)

-- parts in their order
pub part_before : (w l k : ℕ) → l < k → l * w + w ≤ k * w
part_before w l k h = part_fits k w l h

pub part_length : (w k : ℕ) (xs : List ℕ) → k * w + w ≤ length xs → length (part w k xs) ≡ w
unfolding part
part_length w k xs h = length-take-le w (drop (k * w) xs) (omega (arith, length-drop (k * w) xs))

-- what code lends as `&xs[k * w..k * w + w]`
pub lent : (w k : ℕ) (xs : List ℕ) → take (k * w + w - k * w) (drop (k * w) xs) ≡ part w k xs
unfolding part
lent w k xs = let e : k * w + w - k * w ≡ w = omega arith in rw e

pub lent_length : (w k : ℕ) (xs : List ℕ) → k * w + w ≤ length xs → length (take (k * w + w - k * w) (drop (k * w) xs)) ≡ w
lent_length w k xs h = ap length (lent w k xs) ∙ part_length w k xs h

-- what is left when that part comes back as ys
abbrev pub put : ℕ → ℕ → List ℕ → List ℕ → List ℕ
put w k xs ys = put_mid (k * w) (k * w + w - k * w) xs ys

-- a part that lies in the front
front : (a b w : ℕ) (xs rest : List ℕ) → a ≤ length xs → b + w ≤ a → take w (drop b (take a xs ++ rest)) ≡ take w (drop b (take a xs))
front a b w xs rest h g =
    let e : length (take a xs) ≡ a = length-take-le a xs h in
    ap (λ (l : List ℕ). take w l) (drop-append-le b (take a xs) rest (omega arith))
    ∙ take-append-le w (drop b (take a xs)) rest (omega (arith, length-drop b (take a xs)))

module _ (w k : ℕ) (xs ys : List ℕ) (fits : k * w + w ≤ length xs) (full : length ys ≡ w) where
  pub put_length : length (put w k xs ys) ≡ length xs
  put_length = same_len_mid (k * w) (k * w + w - k * w) xs ys
      (full ∙ sym (ap length (lent w k xs) ∙ part_length w k xs fits))

  pub put_same : part w k (put w k xs ys) ≡ ys
  unfolding part
  put_same =
      ap (λ (l : List ℕ). take w l) (drop_at (take (k * w) xs) (ys ++ drop (k * w + w - k * w) (drop (k * w) xs)) (k * w) (length-take-le (k * w) xs (omega arith)))
      ∙ take_at ys (drop (k * w + w - k * w) (drop (k * w) xs)) w full

  after : (l : ℕ) → k < l → drop (l * w) (put w k xs ys) ≡ drop (l * w) xs
  after l h =
      let g : k * w + w ≤ l * w = part_before w k l h in
      let f : (zs : List ℕ) → drop (l * w) zs ≡ drop (l * w - (k * w + w)) (drop (k * w + w) zs) =
      λ zs. sym (drop-drop (l * w - (k * w + w)) (k * w + w) zs ∙ (let e : k * w + w + (l * w - (k * w + w)) ≡ l * w = omega arith in rw e)) in
      f (put w k xs ys)
      ∙ ap (λ (zs : List ℕ). drop (l * w - (k * w + w)) zs) (drop_put (k * w) (k * w + w) xs ys (omega arith) fits (omega arith))
      ∙ sym (f xs)

  pub put_other : (l : ℕ) → l ≢ k → part w l (put w k xs ys) ≡ part w l xs
  unfolding part
  put_other l ne = elim (dec_lt l k) [
    | yes h ↦
        let g : l * w + w ≤ k * w = part_before w l k h in
        front (k * w) (l * w) w xs (ys ++ drop (k * w + w - k * w) (drop (k * w) xs)) (omega arith) g
        ∙ sym (front (k * w) (l * w) w xs (drop (k * w) xs) (omega arith) g)
        ∙ ap (λ (zs : List ℕ). take w (drop (l * w) zs)) (take-append-drop (k * w) xs)
    | no h ↦ ap (λ (zs : List ℕ). take w zs) (after l (omega arith))
  ]
