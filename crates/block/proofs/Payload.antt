-- Parts of a file's payload: their length and words, and whether some word of one has a property.
use Rattle.std.proofs.Common.{◌≡◌, ℕ, ◌+◌, ◌<◌, ◌≤◌, Bool, true, false, ◌≢◌, ◌↔◌, List, length, get_or, arith}
use Rattle.std.specs.Bool.{MatchBool}
use Rattle.std.specs.List.{range_with_len, HoldsAt, AllWithin}
use Rattle.std.proofs.lemmas.List.FromFn.{length-range_with_len, get_or-range_with_len}
use Rattle.field.proofs.Truth.{fails, shown, refuted}
use Rattle.words.specs.Some.{Some}
use Rattle.block.specs.Part.{payload_at, payload_part}
use Rattle.block.proofs.Table.{length_up_to, get_d_up_to}

module _ (file : List ℕ) (from count : ℕ) where
  pub length_part : length (payload_part file from count) ≡ count
  unfolding payload_part
  length_part = length_up_to count _

  pub part_at : (i : ℕ) → i < count → get_or (payload_part file from count) i 0 ≡ payload_at file (from + i)
  unfolding payload_part
  part_at i h = get_d_up_to count _ i h

  pub part_some : (Bad : ℕ → Type 0) (i : ℕ) → i < count → Bad (payload_at file (from + i)) → Some Bad (payload_part file from count)
  part_some Bad i h b = (i, rw length_part h, rw (part_at i h) b)

  pub part_none : (Bad : ℕ → Type 0) → ((i : ℕ) → i < count → ¬ (Bad (payload_at file (from + i)))) → ¬ (Some Bad (payload_part file from count))
  part_none Bad h f =
      let l : f.0 < count = rw length_part at f.1 in
      h f.0 l (rw (part_at f.0 l) at f.2)

  -- where the range over their places was searched for one that is at least a bound
  pub part_any : (bound : ℕ) (r : Bool)
      → MatchBool r
      ((k : ℕ) × (k < length (range_with_len from count)) × HoldsAt (λ k. bound ≤ payload_at file k) (range_with_len from count) k)
      (AllWithin (λ k. payload_at file k < bound) (range_with_len from count) 0 (length (range_with_len from count)))
      → (r ≡ true) ↔ Some (λ x. bound ≤ x) (payload_part file from count)
  part_any bound true h =
      let l : h.0 < count = rw length-range_with_len at h.1 in
      shown (part_some (λ x. bound ≤ x) h.0 l (rw (get_or-range_with_len from count h.0 0 l) at (h.2 0)))
  part_any bound false h =
      refuted (part_none (λ x. bound ≤ x) (λ i l b. let m = rw (get_or-range_with_len from count i 0 l) at (h i 0 (omega arith) (rw length-range_with_len l)) in omega arith))

-- a word that is at least 1 is one that is not zero
pub spare_some : (l : List ℕ) → Some (λ x. 1 ≤ x) l → Some (λ x. x ≢ 0) l
spare_some l f = (f.0, f.1, λ e. omega (arith, f.2))

pub spare_zero : (l : List ℕ) (r : Bool) → (r ≡ true) ↔ Some (λ x. 1 ≤ x) l → r ≡ false → ¬ (Some (λ x. x ≢ 0) l)
spare_zero l r i e f = fails r i e (f.0, f.1, omega (arith, f.2))
