-- The layout of an admitted job: its length, its payload words, that the job can be read back from it, and that the reader's tests pass.
use mathlib.Core.Path.{◌≡◌, refl, ap, ◌∙◌}
use mathlib.Core.List.{◌∷◌, ◌++◌}
use Prim.Native.Nat.{ℕ, suc, ◌+◌, ◌*◌, ◌≤◌, ◌<◌}
use native.Mathlib.Nat.{le_of_eq}
use native.Mathlib.Omega.{arith}
use lib.ListN.{length, take, drop, get_or, length-append}
use lib.Seq.{take_at, take_all, drop_at}
use Rattle.field.specs.Refusal.{NoTest}
use Rattle.field.proofs.Outcome.{none_both}
use Rattle.field.proofs.Truth.{no_either, exact}
use Rattle.words.specs.Some.{Some}
use Rattle.sizes.specs.Entry.{EntryOutside}
use Rattle.sizes.specs.Orders.{sizes_order}
use Rattle.sizes.proofs.Entry.{none_outside}
use Rattle.sizes.proofs.Passed.{sizes_pass}
use Rattle.words.proofs.Sizes.{series_small}
use Rattle.block.specs.Bytes.{Words}
use Rattle.block.specs.Part.{blocks_in, payload_at, payload_part}
use Rattle.block.specs.File.{blocks_for}
use Rattle.block.specs.Fault.{faults}
use Rattle.block.specs.Count.{count_tests}
use Rattle.block.proofs.Words.{words_cons, words_append}
use Rattle.block.proofs.File.{length_file}
use Rattle.block.proofs.Length.{not_bad}
use Rattle.block.proofs.Whole.{word_file, part_file, file_faultless, file_counted}
use Rattle.jobfile.specs.Lengths.{type_words, series_words}
use Rattle.jobfile.specs.Job.{Job, Admitted}
use Rattle.jobfile.specs.Layout.{word_count, words_of, layout}
use Rattle.jobfile.specs.Payload.{type_in, series_in, job_in}
use Rattle.jobfile.specs.Orders.{length_tests, content_tests, bound_tests, reader_order}

pub length_of : (j : Job) → length (words_of j) ≡ 3 + length j.d + length j.series
unfolding words_of
length_of j = omega (arith, length-append j.d j.series)

module _ (j : Job) (a : Admitted j) where
  pub length_words : length (words_of j) ≡ word_count j.n j.s
  length_words = omega (arith, length_of j, a.type_length, a.series_length)

  list_words : Words (j.d ++ j.series)
  list_words =
      let p-to = a.modulus.at_most in
      words_append j.d j.series (λ i. omega (arith, a.entries i)) (λ i. omega (arith, a.coefficients i))

  words_words : Words (words_of j)
  unfolding words_of
  words_words =
      let p-to = a.modulus.at_most in
      let rest = j.d ++ j.series in
      words_cons j.p (j.n ∷ j.s ∷ rest) (omega arith)
      (words_cons j.n (j.s ∷ rest) (omega (arith, a.n_to)) (words_cons j.s rest (omega (arith, a.s_to)) list_words))

  -- one block at least, and 17 at most
  pub blocks_few : (1 ≤ blocks_for (word_count j.n j.s)) × (blocks_for (word_count j.n j.s) ≤ 17)
  unfolding blocks_for
  blocks_few =
      let m = series_small j.n j.s a.n_to a.s_to in
      (omega arith, omega (arith, a.n_to))

  few : blocks_for (length (words_of j)) ≤ 4294967296
  few = rw length_words (omega (arith, blocks_few.1))

  pub length_layout : length (layout j) ≡ 512 * blocks_for (word_count j.n j.s)
  unfolding layout
  length_layout = length_file (words_of j) ∙ ap (λ (n : ℕ). 512 * blocks_for n) length_words

  pub blocks_layout : blocks_in (layout j) ≡ blocks_for (word_count j.n j.s)
  blocks_layout = omega (arith, length_layout)

  word_layout : (k : ℕ) → k < word_count j.n j.s → payload_at (layout j) k ≡ get_or (words_of j) k 0
  unfolding layout
  word_layout k h = word_file (words_of j) few words_words k (rw length_words h)

  part_layout : (from count : ℕ) → from + count ≤ word_count j.n j.s → payload_part (layout j) from count ≡ take count (drop from (words_of j))
  unfolding layout
  part_layout from count h = part_file (words_of j) few words_words from count (rw length_words h)

  pub p_layout : payload_at (layout j) 0 ≡ j.p
  unfolding words_of
  p_layout = word_layout 0 (omega arith)

  pub n_layout : payload_at (layout j) 1 ≡ j.n
  unfolding words_of
  n_layout = word_layout 1 (omega arith)

  pub s_layout : payload_at (layout j) 2 ≡ j.s
  unfolding words_of
  s_layout = word_layout 2 (omega arith)

  pub type_layout : type_in (layout j) j.n ≡ j.d
  unfolding words_of
  type_layout = part_layout 3 j.n (omega arith) ∙ take_at j.d j.series j.n a.type_length

  pub series_layout : series_in (layout j) j.n j.s ≡ j.series
  unfolding words_of
  series_layout =
      let e : 3 + j.n ≡ suc (suc (suc j.n)) = omega arith in
      part_layout (3 + j.n) (j.n * j.s) (omega arith)
      ∙ rw (e, drop_at j.d j.series j.n a.type_length) (take_all _ j.series (le_of_eq a.series_length))

  -- the job is read back
  pub job_layout : job_in (layout j) ≡ j
  unfolding job_in
  job_layout = rw (p_layout, n_layout, s_layout, type_layout, series_layout)

  -- no test of the reader holds
  pub layout_sizes : NoTest (sizes_order j.p j.n j.s)
  layout_sizes = sizes_pass a.modulus a.n_from a.n_to a.s_to

  layout_counted : NoTest (count_tests (layout j) (word_count j.n j.s))
  unfolding layout
  layout_counted = rw length_words at (file_counted (words_of j) few words_words)

  layout_bounds : NoTest (bound_tests (layout j) j.p j.n j.s)
  unfolding NoTest
  layout_bounds =
      let entries : ¬ (Some EntryOutside (type_in (layout j) j.n)) = rw type_layout (none_outside j.d a.entries) in
      let coefficients : ¬ (Some (λ x. j.p ≤ x) (series_in (layout j) j.n j.s)) =
      rw series_layout (λ f. omega (arith, f.2, a.coefficients f.0)) in
      (entries, (coefficients, tt))

  layout_contents : NoTest (content_tests (layout j) j.p j.n j.s)
  layout_contents = none_both (count_tests (layout j) (word_count j.n j.s)) _ layout_counted layout_bounds

  layout_faultless : NoTest (faults 0 (blocks_in (layout j)) (layout j))
  unfolding layout
  layout_faultless = file_faultless (words_of j) few words_words

  layout_lengths : NoTest (length_tests (length (layout j)) type_words series_words)
  unfolding NoTest
  layout_lengths = (
    no_either (exact refl) (exact refl),
    (not_bad _ _ _ length_layout blocks_few.0 (omega (arith, length_layout, blocks_few.1)), tt),
  )

  pub layout_passes : NoTest (reader_order (layout j) type_words series_words)
  layout_passes =
      none_both (length_tests (length (layout j)) type_words series_words) _ layout_lengths
      (none_both (faults 0 (blocks_in (layout j)) (layout j)) _ layout_faultless
      (rw (p_layout, n_layout, s_layout) (none_both (sizes_order j.p j.n j.s) _ layout_sizes layout_contents)))
