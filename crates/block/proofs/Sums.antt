-- The checks depend on the words added alone, and one word more is one turn of the loop that adds them.
use Rattle.std.proofs.Common.{◌≡◌, ℕ, zero, suc, ◌+◌, ◌<◌, List, [], ◌∷◌, length, get_or, sym, refl, ◌∙◌, add-zero, zero-add, true, map, map-id, arith}
use Rattle.std.specs.List.{fold, range_with_len}
use Rattle.std.specs.Iterator.Runs.{Run, YieldsRun}
use Rattle.std.proofs.iter.Yields.{nat_range_steps}
use Rattle.std.proofs.lemmas.Iterator.{YieldsList-from_range, items_from_drains}
use Rattle.std.proofs.lemmas.List.FromFn.{length-map-range_with_len, get_or-map-range_with_len}
use Rattle.words.specs.Polynomial.{poly}
use Rattle.block.specs.Checks.{added, summed, checks_of}

pub summed_same : (v w : ℕ → ℕ) (k : ℕ) → ((i : ℕ) → i < k → v i ≡ w i) → summed v k ≡ summed w k
unfolding summed
summed_same v w zero h = refl
summed_same v w (suc k) h = cc (summed_same v w k (λ i l. h i (omega arith)), h k (omega arith))

pub checks_same : (v w : ℕ → ℕ) → ((i : ℕ) → i < 126 → v i ≡ w i) → checks_of v ≡ checks_of w
unfolding checks_of
checks_same v w h = summed_same v w 126 h

pub summed_below : (w : ℕ → ℕ) (k : ℕ) → ((summed w k).a < 4294967296) × ((summed w k).b < 4294967296)
unfolding summed added
summed_below w zero = (omega arith, omega arith)
summed_below w (suc k) = (omega arith, omega arith)

-- words added one after the other, by a fold, from where k are added already
fold_from : (w : ℕ → ℕ) (k : ℕ) (xs : List ℕ) → ((i : ℕ) → i < length xs → get_or xs i 0 ≡ w (k + i))
    → fold added (summed w k) xs ≡ summed w (k + length xs)
unfolding summed
fold_from w k [] h = simp add-zero
fold_from w k (x ∷ xs) h =
    let first : x ≡ w k = rw add-zero at (h 0 (omega arith)) in
    let e : (i : ℕ) → suc k + i ≡ k + suc i = λ i. omega arith in
    rw (first, ← e (length xs)) (fold_from w (suc k) xs (λ i l. rw e (h (suc i) (omega arith))))

-- and all of them
pub fold_summed : (xs : List ℕ) → fold added (record { a = 1; b = 0 }) xs ≡ summed (poly xs) (length xs)
unfolding summed poly
fold_summed xs = rw zero-add at (fold_from (poly xs) 0 xs (λ i l. simp zero-add))

-- the numbers below n, as a range gives them
pub range_items : (q : Run nat_range_steps) (n : ℕ) → q.from ≡ record { start = 0; end = n } → q.whole ≡ true → q.items ≡ range_with_len 0 n
unfolding YieldsRun
range_items q n e w =
    sym (map-id q.items) ∙ items_from_drains q.items (q.gave.0.0, q.gave.0.1, λ _. q.gave.0.2 w) (YieldsList-from_range 0 n n e (omega arith))

-- the first n words of a table
pub summed_table : (w : ℕ → ℕ) (n : ℕ) (xs : List ℕ) → xs ≡ map w (range_with_len 0 n) → summed (poly xs) (length xs) ≡ summed w n
unfolding poly
summed_table w n xs e =
    rw (e, length-map-range_with_len w 0 n)
    (summed_same _ w n (λ i l. get_or-map-range_with_len w 0 n i i 0 l (zero-add i)))
