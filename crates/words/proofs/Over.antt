-- Words written over the first of a lent list, all at once or one part after the other.
--   first_over                                     the first words are those that were written
--   Filled, filled_none, filled_part, filled_word   a buffer that is written from the front: a part that is lent from there on, or one word more
use mathlib.Core.Path.{◌≡◌, refl, ap, ◌∙◌}
use mathlib.Core.List.{List, [], ◌∷◌, ◌++◌, append_assoc, append-nil}
use Prim.Native.Nat.{ℕ, suc, ◌+◌, ◌-◌, ◌≤◌, ◌<◌}
use native.Mathlib.Omega.{arith}
use lib.ListN.{length, take, drop, set, get_or, length-append, length-drop, length-set, drop_of_length-le}
use lib.Seq.{take_at, drop_at, set_at, take_all, drop-drop, drop-cons}
use borrow.Rule.Slice.PartMut.{mid_of, post_of, put_mid}
use Rattle.words.specs.Lent.{over}

-- the first n of what was written over
pub first_over : (ws lent : List ℕ) (n : ℕ) (left : List ℕ) → length ws ≡ n → left ≡ over ws lent → take n left ≡ ws
first_over ws lent n left l e = ap (take n) e ∙ take_at ws _ n l

-- more words behind those that were written
pub over_more : (done ns lent : List ℕ) → done ++ over ns (drop (length done) lent) ≡ over (done ++ ns) lent
over_more done ns lent = simp (append_assoc, length-append, drop-drop)

-- the first `used` words are `done`, and the others are as lent
pub record Filled (done lent out : List ℕ) (used : ℕ) : Type 0 where
  pub count : length done ≡ used
  pub written : out ≡ over done lent
  pub same : length out ≡ length lent
  pub fits : used ≤ length lent

filled : (done lent : List ℕ) {out : List ℕ} {used : ℕ} → length done ≡ used → out ≡ over done lent → length out ≡ length lent → Filled done lent out used
filled done lent count written same = record {
  count = count;
  written = written;
  same = same;
  fits = omega (arith, ap length written, length-append done (drop (length done) lent));
}

pub filled_none : (lent : List ℕ) → Filled [] lent lent 0
filled_none lent = filled [] lent refl refl refl

module _ {done lent out : List ℕ} {used : ℕ} (f : Filled done lent out used) where
  -- what code lends as `&mut out[used..]`
  pub filled_rest : mid_of used (length out - used) out ≡ drop (length done) lent
  filled_rest = take_all (length out - used) (drop used out) (omega (arith, length-drop used out)) ∙ ap (drop used) f.written ∙ drop_at done _ used f.count

  pub filled_part : (ns : List ℕ) {new : List ℕ} {k : ℕ} → length ns ≡ k → new ≡ over ns (mid_of used (length out - used) out) → length (put_mid used (length out - used) out new) ≡ length lent
      → Filled (done ++ ns) lent (put_mid used (length out - used) out new) (used + k)
  filled_part ns l e same =
      let front : take used out ≡ done = first_over done lent used out f.count f.written in
      let none : post_of used (length out - used) out ≡ [] = drop_of_length-le (drop used out) {i = length out - used} (omega (arith, length-drop used out)) in
      filled (done ++ ns) lent (omega (arith, length-append done ns))
      (rw (front, none, append-nil) (ap (λ (l : List ℕ). done ++ l) (e ∙ ap (over ns) filled_rest) ∙ over_more done ns lent)) same

  pub filled_word : (v : ℕ) → used < length out → Filled (done ++ (v ∷ [])) lent (set out used v) (used + 1)
  filled_word v h =
      let rest : drop (length done) lent ≡ get_or lent (length done) 0 ∷ drop (suc (length done)) lent = drop-cons lent (length done) 0 (omega arith) in
      let one : suc (length done) ≡ length done + length (v ∷ []) = omega arith in
      filled (done ++ (v ∷ [])) lent (omega (arith, length-append done (v ∷ [])))
      (ap (λ (l : List ℕ). set l used v) (f.written ∙ ap (λ (l : List ℕ). done ++ l) rest) ∙ set_at done _ _ v used f.count
      ∙ simp (append_assoc, length-append) (ap (λ (n : ℕ). done ++ (v ∷ drop n lent)) one)) (length-set out used v ∙ f.same)
