-- Sums that are gathered in two halves, by products with the lower and the upper 16 bits of a word.
use Rattle.std.specs.Prelude.{◌≡◌, ℕ, ◌+◌, ◌*◌, ◌^◌, ◌<◌}
use Rattle.field.specs.declared.Halves.{Halves}

abbrev pub gathered : Halves → ℕ
gathered h = h.low + h.high * 2 ^ 16

-- k more products fit: half a word times a word is below 2^48
pub record Room (k : ℕ) (h : Halves) : Type 0 where
  pub low : h.low + k * 2 ^ 48 < 2 ^ 64
  pub high : h.high + k * 2 ^ 48 < 2 ^ 64

-- h is s with at most k more products, whose sum is x
pub record Gathers (k : ℕ) (s : Halves) (x : ℕ) (h : Halves) : Type 0 where
  pub sum : gathered h ≡ gathered s + x
  pub room : (m : ℕ) → Room (k + m) s → Room m h
