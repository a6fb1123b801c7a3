-- Appending texts: one after the other is their join, and there is room for each where there is room for the join.
--   wrote_none, wrote_append                what is written
--   room_first, room_rest, wrote_length     what is left of the buffer
--   wrote_each, room_each                   the same for loops
--   wrote_whole, wrote_answer               a text at the start
use mathlib.Core.Path.{◌≡◌, refl, sym, ap, ◌∙◌}
use mathlib.Core.List.{List, [], ◌∷◌, ◌++◌}
use Prim.Native.Nat.{ℕ, zero, suc, ◌+◌, ◌≤◌, ◌<◌}
use native.Mathlib.Nat.{add-zero}
use native.Mathlib.Numerals.{add-one}
use native.Mathlib.Omega.{arith}
use lib.ListN.{length, drop, set, length-append}
use lib.Seq.{sets, length-sets, sets-eq}
use Rattle.field.specs.Answer.{result}
use Rattle.report.specs.Each.{each}
use Rattle.report.specs.Wrote.{Room, Wrote}

sets_append : (l : List ℕ) (i : ℕ) (a b : List ℕ) → sets l i (a ++ b) ≡ sets (sets l i a) (i + length a) b
sets_append l i [] b = ap (λ (k : ℕ). sets l k b) (sym (add-zero i))
sets_append l i (x ∷ a) b =
    let e : suc i + length a ≡ i + suc (length a) = omega arith in
    sets_append (set l i x) (suc i) a b ∙ ap (λ (k : ℕ). sets (sets (set l i x) (suc i) a) k b) e

module _ {a x y : List ℕ} {at m : ℕ} where
  pub wrote_length : Wrote a x at y m → length y ≡ length x
  wrote_length w = ap length w.bytes ∙ length-sets x at a

  pub wrote_append : {b z : List ℕ} {r : ℕ} → Wrote a x at y m → Wrote b y m z r → Wrote (a ++ b) x at z r
  wrote_append {b} {z} {r} v w = record {
    position = omega (arith, v.position, w.position, length-append a b);
    bytes = w.bytes ∙ ap (λ (l : List ℕ). sets l m b) v.bytes ∙ ap (λ (k : ℕ). sets (sets x at a) k b) v.position ∙ sym (sets_append x at a b);
  }

  pub room_rest : {b : List ℕ} → Room (a ++ b) x at → Wrote a x at y m → Room b y m
  room_rest {b} h w = record { fits = omega (arith, h.fits, length-append a b, wrote_length w, w.position) }

pub wrote_none : (x : List ℕ) (at : ℕ) → Wrote [] x at x at
wrote_none x at = record { position = omega arith; bytes = refl }

pub room_first : (a b : List ℕ) {x : List ℕ} {at : ℕ} → Room (a ++ b) x at → Room a x at
room_first a b h = record { fits = omega (arith, h.fits, length-append a b) }

-- a loop that appends f k in turn k
pub wrote_each : (f : ℕ → List ℕ) {x y z : List ℕ} {at m r : ℕ} (k : ℕ) → Wrote (each f k) x at y m → Wrote (f k) y m z r → Wrote (each f (k + 1)) x at z r
unfolding each
wrote_each f k v w = rw add-one (wrote_append v w)

each_more : (f : ℕ → List ℕ) (k n : ℕ) → k ≤ n → length (each f k) ≤ length (each f n)
unfolding each
each_more f k zero h = let e : k ≡ 0 = omega arith in rw e (omega arith)
each_more f k (suc n) h = elim (native.Mathlib.Decide.dec_lt n k) [
  | yes l ↦ let e : k ≡ suc n = omega arith in rw e (omega arith)
  | no l ↦ omega (arith, each_more f k n (omega arith), length-append (each f n) (f n))
]

pub room_each : (f : ℕ → List ℕ) {x y : List ℕ} {at m : ℕ} (n k : ℕ) → k < n → Room (each f n) x at → Wrote (each f k) x at y m → Room (f k) y m
unfolding each
room_each f n k l h w = record { fits = omega (arith, h.fits, each_more f (suc k) n l, length-append (each f k) (f k), wrote_length w, w.position) }

-- a text at the start of the buffer
pub wrote_whole : {a x y : List ℕ} {m : ℕ} → Room a x 0 → Wrote a x 0 y m → (m ≡ length a) × (y ≡ a ++ drop (length a) x)
wrote_whole {a} {x} h w =
    let e : 0 + length a ≡ length a = omega arith in
    (w.position ∙ e, w.bytes ∙ sets-eq a x 0 h.fits ∙ ap (λ (k : ℕ). a ++ drop k x) e)

-- and what the call then says
pub wrote_answer : {a x y : List ℕ} {m : ℕ} → Room a x 0 → Wrote a x 0 y m → (result (m ∷ []) ≡ result (length a ∷ [])) × (y ≡ a ++ drop (length a) x)
wrote_answer h w = (ap (λ (k : ℕ). result (k ∷ [])) (wrote_whole h w).0, (wrote_whole h w).1)
