-- Where a search by `position(..).unwrap_or(..)` through the part `&text[at..]` stops: at the first byte that passes, or at the end.
use mathlib.Core.Path.{◌≡◌, refl, ap, ◌∙◌}
use mathlib.Core.Bool.{Bool, true, false}
use mathlib.Core.List.{List}
use Prim.Native.Nat.{ℕ, ◌-◌, ◌≤◌}
use native.Mathlib.Omega.{arith}
use lib.Dec.{ltb}
use lib.ListN.{length, take, drop}
use Rattle.std.specs.Prelude.{Option, unwrap_or}
use Rattle.std.specs.List.{position, position_or_len}
use Rattle.std.proofs.lemmas.Bool.Decides.{nat_tests}
use Rattle.std.proofs.lemmas.List.{take_rest}
use Rattle.std.proofs.lemmas.List.Sums.{prefix_len-le-length}

stops : (test : ℕ → Bool) (xs : List ℕ) → unwrap_or (position test xs) (length xs) ≡ position_or_len test xs
stops test xs = go (ltb (position_or_len test xs) (length xs)) refl
  where
    go : (b : Bool) → ltb (position_or_len test xs) (length xs) ≡ b → unwrap_or (position test xs) (length xs) ≡ position_or_len test xs
    go true e = rw e
    go false e = let h : position_or_len test xs ≤ length xs = prefix_len-le-length _ xs in rw e (grind (arith, nat_tests))

pub stops_at : (test : ℕ → Bool) (text : List ℕ) (at : ℕ) {r : Option ℕ} {n : ℕ} → r ≡ position test (take (length text - at) (drop at text))
    → n ≡ unwrap_or r (length (take (length text - at) (drop at text))) → n ≡ position_or_len test (drop at text)
stops_at test text at {r} e f = f ∙ rw e (stops test _) ∙ ap (position_or_len test) (take_rest text at)
