-- The parts of w words that `chunks_exact` gives: they come in their order, until fewer words are left.
use mathlib.Core.Path.{◌≡◌, sym, ap, ◌∙◌}
use mathlib.Core.List.{List, ◌++◌}
use Prim.Native.Nat.{ℕ, ◌+◌, ◌*◌, ◌-◌, ◌/◌, ◌≤◌, ◌<◌}
use native.Mathlib.Omega.{arith}
use native.Mathlib.Nat.{add-mul, one-mul, zero-mul}
use lib.ListN.{length, take, drop, length-append, length-drop}
use lib.Seq.{drop-drop, take_at, drop_at}
use Rattle.std.specs.Prelude.{Some, None}
use Rattle.std.specs.Borrow.{Bor}
use Rattle.std.specs.declared.slice.ChunksExact.{ChunksExact}
use Rattle.std.specs.Slice.Iter.{chunks_exact_rest, chunks_exact_size, chunks_exact_steps}
use Rattle.std.proofs.lemmas.Nat.{le-div, div-mul-add}
use Rattle.words.specs.Part.{part}

-- k parts of xs have come
pub record Cut (w : ℕ) (xs : List ℕ) (k : ℕ) (s : ChunksExact ℕ) : Type 0 where
  pub rest : chunks_exact_rest s ≡ drop (k * w) xs
  pub size : chunks_exact_size s ≡ w
  pub within : k * w ≤ length xs

pub cut_start : (w : ℕ) (xs : List ℕ) (s : ChunksExact ℕ) → chunks_exact_rest s ≡ xs → chunks_exact_size s ≡ w → Cut w xs 0 s
cut_start w xs s e f = record { rest = rw (zero-mul w) e; size = f; within = omega (arith, zero-mul w) }

module _ (w : ℕ) (xs : List ℕ) (k : ℕ) (s t : ChunksExact ℕ) (c : Cut w xs k s) where
  module _ (x : Bor (List ℕ)) (step : chunks_exact_steps s (Some x) t) where
    long : length x.now ≡ w
    long = step.1.1 ∙ c.size

    cut_is : drop (k * w) xs ≡ x.now ++ chunks_exact_rest t
    cut_is = sym c.rest ∙ step.1.0

    more : (k + 1) * w ≡ k * w + w
    more = add-mul k 1 w ∙ ap (λ (n : ℕ). k * w + n) (one-mul w)

    fits : k * w + w ≤ length xs
    fits = omega (arith, ap length cut_is, length-append x.now (chunks_exact_rest t), length-drop (k * w) xs, long, c.within)

    pub cut_part : x.now ≡ part w k xs
    unfolding part
    cut_part = sym (ap (take w) cut_is ∙ take_at x.now (chunks_exact_rest t) w long)

    pub cut_more : Cut w xs (k + 1) t
    cut_more = record {
      rest = sym (rw more (sym (drop-drop w (k * w) xs) ∙ ap (drop w) cut_is ∙ drop_at x.now (chunks_exact_rest t) w long));
      size = step.0 ∙ c.size;
      within = omega (arith, more, fits);
    }

    pub cut_below : 0 < w → k < length xs / w
    cut_below h = omega (arith, le-div (k + 1) (length xs) w h (omega (arith, more, fits)))

  pub cut_end : chunks_exact_steps s None t → k ≡ length xs / w
  cut_end step =
      let left : length xs - k * w < w = omega (arith, step.1.0, c.size, ap length c.rest, length-drop (k * w) xs) in
      let e : k * w + (length xs - k * w) ≡ length xs = omega (arith, c.within) in
      sym (ap (λ (n : ℕ). n / w) (sym e) ∙ div-mul-add k w (length xs - k * w) left)
