-- Laws of the order of the integers, which is the library's: a is at most b exactly where b is a plus some natural number.
use mathlib.Core.Path.{◌≡◌, ap, sym, ◌∙◌, subst}
use Prim.Native.Nat.{ℕ, suc, ◌+◌, ◌-◌, ◌≤◌, ◌<◌}
use native.Mathlib.Decide.{dec_lt}
use native.Mathlib.Omega.{arith}
use borrow.Author.Tests.{lt-ltb, le-ltb}
use lib.Dec.{leb→le, le→leb}
use lib.IntN.{ℤ, pos, negsuc, ◌+ℤ◌, ◌-ℤ◌, nat_abs, sub_ℕ, +ℤ_assoc, +ℤ_comm, +ℤ_idl, +ℤ_idr, +ℤ-neg_ℤ_cancel}
use lib.Signed.{◌≤ℤ◌}

pub pos_inj : (u v : ℕ) → pos u ≡ pos v → u ≡ v
pos_inj u v h = ap nat_abs h

-- a difference of naturals that is none below 0
pub minus_pos : (a c : ℕ) → c ≤ a → pos a -ℤ pos c ≡ pos (a - c)
minus_pos a c h =
    let q : pos a ≡ pos (a - c) +ℤ pos c = ap pos (omega arith) in
    ap (λ (z : ℤ). z -ℤ pos c) q ∙ +ℤ-neg_ℤ_cancel (pos (a - c)) (pos c)

pub le_pos : (u v : ℕ) → u ≤ v → pos u ≤ℤ pos v
le_pos u v h = record { le = le→leb u v h }

pub pos_le : (u v : ℕ) → pos u ≤ℤ pos v → u ≤ v
pos_le u v h = leb→le u v h.le

sub_up : (u v : ℕ) → v ≤ u → sub_ℕ u v ≡ pos (u - v)
sub_up u v h = simp (le-ltb u v h)

sub_down : (u v : ℕ) → u < v → sub_ℕ u v ≡ negsuc (v - suc u)
sub_down u v h = simp (lt-ltb u v h)

-- the natural number between two integers
gap : (x y : ℤ) → x ≤ℤ y → (k : ℕ) × (x +ℤ pos k ≡ y)
gap (pos u) (pos v) h = let g = pos_le u v h in (v - u, ap pos (omega arith))
gap (pos u) (negsuc v) h = absurd h.le
gap (negsuc u) (pos v) h = (suc u + v, sub_up (suc u + v) (suc u) (omega arith) ∙ ap pos (omega arith))
gap (negsuc u) (negsuc v) h = let g = leb→le v u h.le in (u - v, sub_down (u - v) (suc u) (omega arith) ∙ ap negsuc (omega arith))

le_gap : (x : ℤ) (k : ℕ) → x ≤ℤ (x +ℤ pos k)
le_gap (pos u) k = le_pos u (u + k) (omega arith)
le_gap (negsuc u) k = elim (dec_lt k (suc u)) [
  | yes g ↦ subst (λ (z : ℤ). negsuc u ≤ℤ z) (sym (sub_down k (suc u) g)) (record { le = le→leb (suc u - suc k) u (omega arith) })
  | no g ↦ subst (λ (z : ℤ). negsuc u ≤ℤ z) (sym (sub_up k (suc u) (omega arith))) (record { le = tt })
]

le_of : (x y : ℤ) (k : ℕ) → x +ℤ pos k ≡ y → x ≤ℤ y
le_of x y k e = subst (λ (z : ℤ). x ≤ℤ z) e (le_gap x k)

-- the last two summands change places
pub swap_last : (x y z : ℤ) → (x +ℤ y) +ℤ z ≡ (x +ℤ z) +ℤ y
swap_last x y z = +ℤ_assoc x y z ∙ ap (λ (w : ℤ). x +ℤ w) (+ℤ_comm y z) ∙ sym (+ℤ_assoc x z y)

pub le_add : (x y c : ℤ) → x ≤ℤ y → (x +ℤ c) ≤ℤ (y +ℤ c)
le_add x y c h =
    let g = gap x y h in
    le_of (x +ℤ c) (y +ℤ c) g.0 (swap_last x c (pos g.0) ∙ ap (λ (w : ℤ). w +ℤ c) g.1)

pub cancel_add : (x y c : ℤ) → x +ℤ c ≡ y +ℤ c → x ≡ y
cancel_add x y c h = sym (+ℤ-neg_ℤ_cancel x c) ∙ ap (λ (w : ℤ). w -ℤ c) h ∙ +ℤ-neg_ℤ_cancel y c

pub cancel_le : (x y c : ℤ) → (x +ℤ c) ≤ℤ (y +ℤ c) → x ≤ℤ y
cancel_le x y c h =
    let g = gap (x +ℤ c) (y +ℤ c) h in
    le_of x y g.0 (cancel_add (x +ℤ pos g.0) y c (swap_last x (pos g.0) c ∙ g.1))

pub le_trans : (x y z : ℤ) → x ≤ℤ y → y ≤ℤ z → x ≤ℤ z
le_trans x y z h l =
    let u = gap x y h in
    let v = gap y z l in
    le_of x z (u.0 + v.0) (sym (+ℤ_assoc x (pos u.0) (pos v.0)) ∙ ap (λ (w : ℤ). w +ℤ pos v.0) u.1 ∙ v.1)

pub le_antisym : (x y : ℤ) → x ≤ℤ y → y ≤ℤ x → x ≡ y
le_antisym x y h l =
    let u = gap x y h in
    let v = gap y x l in
    let back : x +ℤ pos (u.0 + v.0) ≡ x =
    sym (+ℤ_assoc x (pos u.0) (pos v.0)) ∙ ap (λ (w : ℤ). w +ℤ pos v.0) u.1 ∙ v.1 in
    let none : pos (u.0 + v.0) ≡ pos 0 = cancel_add (pos (u.0 + v.0)) (pos 0) x (+ℤ_comm (pos (u.0 + v.0)) x ∙ back ∙ sym (+ℤ_idl x)) in
    let k : u.0 ≡ 0 = omega (arith, pos_inj (u.0 + v.0) 0 none) in
    sym (+ℤ_idr x) ∙ ap (λ (n : ℕ). x +ℤ pos n) (sym k) ∙ u.1
