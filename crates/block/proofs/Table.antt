-- The list of a function's first values: its length, its elements, a list as the table of its own elements, and a table that is two in a row.
use Rattle.std.proofs.Common.{◌≡◌, ℕ, zero, suc, ◌+◌, ◌<◌, List, [], ◌∷◌, ◌++◌, length, get_or, refl, ap, suc-add, zero-add, arith}
use Rattle.block.specs.Block.{up_to}

pub length_up_to : (n : ℕ) (w : ℕ → ℕ) → length (up_to n w) ≡ n
unfolding up_to
length_up_to zero w = refl
length_up_to (suc n) w = ap suc (length_up_to n (λ i. w (suc i)))

pub get_d_up_to : (n : ℕ) (w : ℕ → ℕ) (i : ℕ) → i < n → get_or (up_to n w) i 0 ≡ w i
unfolding up_to
get_d_up_to zero w i h = absurd (omega arith)
get_d_up_to (suc n) w zero h = refl
get_d_up_to (suc n) w (suc i) h = get_d_up_to n (λ i. w (suc i)) i (omega arith)

pub up_to_same : (n : ℕ) (v w : ℕ → ℕ) → ((i : ℕ) → i < n → v i ≡ w i) → up_to n v ≡ up_to n w
unfolding up_to
up_to_same zero v w h = refl
up_to_same (suc n) v w h =
    let r = up_to_same n (λ i. v (suc i)) (λ i. w (suc i)) (λ i l. h (suc i) (omega arith)) in
    cc (r, h 0 (omega arith))

pub up_to_get_d : (l : List ℕ) → up_to (length l) (λ i. get_or l i 0) ≡ l
unfolding up_to
up_to_get_d [] = refl
up_to_get_d (x ∷ l) = ap (λ (r : List ℕ). x ∷ r) (up_to_get_d l)

pub up_to_append : (a b : ℕ) (w : ℕ → ℕ) → up_to (a + b) w ≡ up_to a w ++ up_to b (λ i. w (a + i))
unfolding up_to
up_to_append zero b w = simp zero-add
up_to_append (suc a) b w = simp suc-add (ap (λ (r : List ℕ). w 0 ∷ r) (up_to_append a b (λ i. w (suc i))))
