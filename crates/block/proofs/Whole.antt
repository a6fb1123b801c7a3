-- Files of blocks against their tests: the file of some words passes them and gives the words back, and what passes them is the file of its
-- payload words.
use Rattle.std.proofs.Common.{◌≡◌, ℕ, ◌+◌, ◌-◌, ◌*◌, ◌<◌, ◌≤◌, ◌≢◌, List, length, get_or, take, drop, sym, ◌∙◌, zero-add, arith, length-drop, length-take-le, get_or-drop, get_or-take, ext_get_or}
use lib.ListN.{get_or-eq_default}
use Rattle.field.specs.Refusal.{NoTest}
use Rattle.field.proofs.Truth.{same_of, exact}
use Rattle.block.specs.Bytes.{Bytes, Words}
use Rattle.block.specs.Block.{up_to}
use Rattle.block.specs.File.{blocks_for, file_of}
use Rattle.block.specs.Part.{blocks_in, payload_at, payload_part}
use Rattle.block.specs.Fault.{faults}
use Rattle.block.specs.Count.{count_tests}
use Rattle.block.proofs.File.{length_file, blocks_enough, payload_blocks, blocks_sound, file_is}
use Rattle.block.proofs.Fault.{no_faults, faultless}
use Rattle.block.proofs.Payload.{length_part, part_at, part_some, part_none}

-- count words lie in their blocks
pub count_fits : (file : List ℕ) (count : ℕ) → blocks_in file ≡ blocks_for count → count ≤ 125 * blocks_in file
count_fits file count e = rw e (blocks_enough count)

module _ (ws : List ℕ) (few : blocks_for (length ws) ≤ 4294967296) (h : Words ws) where
  pub blocks_file : blocks_in (file_of ws) ≡ blocks_for (length ws)
  blocks_file = omega (arith, length_file ws)

  payload_file : (k : ℕ) → k < 125 * blocks_for (length ws) → payload_at (file_of ws) k ≡ get_or ws k 0
  unfolding file_of
  payload_file k l = payload_blocks 0 (blocks_for (length ws)) ws (omega arith) h k l

  pub word_file : (k : ℕ) → k < length ws → payload_at (file_of ws) k ≡ get_or ws k 0
  word_file k l = payload_file k (omega (arith, blocks_enough (length ws)))

  -- a part of the payload is that part of the words
  pub part_file : (from count : ℕ) → from + count ≤ length ws → payload_part (file_of ws) from count ≡ take count (drop from ws)
  part_file from count l =
      let n = length_part (file_of ws) from count in
      ext_get_or 0 _ _ (n ∙ sym (length-take-le count (drop from ws) (omega (arith, length-drop from ws))))
      (λ i j. let k : i < count = rw n at j in
      part_at (file_of ws) from count i k ∙ word_file (from + i) (omega arith) ∙ sym (get_or-take count (drop from ws) i 0 k ∙ get_or-drop from ws i 0))

  pub file_faultless : NoTest (faults 0 (blocks_in (file_of ws)) (file_of ws))
  unfolding file_of
  file_faultless = rw blocks_file (faultless 0 _ _ (blocks_sound 0 (blocks_for (length ws)) ws (omega arith) h))

  pub file_counted : NoTest (count_tests (file_of ws) (length ws))
  unfolding NoTest
  file_counted =
      let n = length ws in
      let b = blocks_file in (
        exact b,
        (
          part_none (file_of ws) n (125 * blocks_in (file_of ws) - n) (λ x. x ≢ 0)
              (λ i l e. e (payload_file (n + i) (omega arith) ∙ get_or-eq_default ws 0 (omega arith))),
          tt,
        ),
      )

module _ (file : List ℕ) (count : ℕ) (t : NoTest (count_tests file count)) where
  pub counted : blocks_in file ≡ blocks_for count
  unfolding NoTest
  counted = same_of _ _ t.0

  spare_zero : (k : ℕ) → count ≤ k → k < 125 * blocks_in file → payload_at file k ≡ 0
  unfolding NoTest
  spare_zero k h l =
      let e : count + (k - count) ≡ k = omega arith in
      same_of _ _ (λ n. t.1.0 (part_some file count (125 * blocks_in file - count) (λ x. x ≢ 0) (k - count) (omega arith) (rw e n)))

  pub file_read : length file ≡ 512 * blocks_in file → NoTest (faults 0 (blocks_in file) file) → Bytes file → file ≡ file_of (up_to count (payload_at file))
  file_read whole none b =
      let m = counted in
      file_is count file b (rw (← m) whole)
      (λ j i. rw zero-add at (no_faults 0 (blocks_in file) file none j (rw m i)))
      (λ k h l. spare_zero k h (rw m l))
