-- Numbers that are drawn: one more, and how many.
use mathlib.Core.Path.{◌≡◌, refl, ap}
use mathlib.Core.List.{List, ◌++◌}
use Prim.Native.Nat.{ℕ, zero, suc, ◌+◌, ◌-◌, ◌%◌, ◌<◌}
use native.Mathlib.Omega.{arith}
use native.Mathlib.Numerals.{add-one}
use lib.ListN.{length, take, set}
use lib.Seq.{take-suc-set, append_snoc}
use Rattle.request.specs.Drawn.{next, drawn}

pub drawn_turn : (m n x : ℕ) (out : List ℕ) (i : ℕ) → i < n → i < length out
    → take i out ++ drawn m (n - i) x ≡ take (i + 1) (set out i (next x % m)) ++ drawn m (n - (i + 1)) (next x)
unfolding drawn
drawn_turn m n x out i h l =
    let e : n - i ≡ suc (n - (i + 1)) = omega arith in
    rw (e, add-one i, take-suc-set out i (next x % m) l, append_snoc)

pub length_drawn : (m k x : ℕ) → length (drawn m k x) ≡ k
unfolding drawn
length_drawn m zero x = refl
length_drawn m (suc k) x = ap suc (length_drawn m k (next x))
