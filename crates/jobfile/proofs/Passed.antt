-- What is known where no test of the reader or of the writer holds: the file is the layout of an admitted job; the job lent is admitted.
use mathlib.Core.Path.{◌≡◌, ap, ◌∙◌}
use mathlib.Core.List.{List, ◌++◌}
use Prim.Native.Nat.{ℕ, ◌+◌, ◌*◌, ◌≤◌}
use native.Mathlib.Omega.{arith}
use lib.ListN.{length}
use Rattle.field.specs.Modulus.{Modulus}
use Rattle.field.specs.Refusal.{NoTest}
use Rattle.field.proofs.Outcome.{none_left, none_right}
use Rattle.field.proofs.Truth.{same_of, neither}
use Rattle.words.proofs.Within.{below}
use Rattle.sizes.specs.Orders.{sizes_order}
use Rattle.sizes.proofs.Entry.{entries_inside}
use Rattle.sizes.proofs.Passed.{sizes_passed, job_passed}
use Rattle.words.proofs.Sizes.{series_small}
use Rattle.block.specs.Bytes.{Bytes}
use Rattle.block.specs.Block.{up_to}
use Rattle.block.specs.Part.{blocks_in, payload_at, payload_part}
use Rattle.block.specs.File.{blocks_for, file_of}
use Rattle.block.specs.Fault.{faults}
use Rattle.block.specs.Count.{count_tests}
use Rattle.block.proofs.Table.{up_to_append}
use Rattle.block.proofs.Payload.{length_part}
use Rattle.block.proofs.Length.{GoodLength, good_length}
use Rattle.block.proofs.Whole.{count_fits, counted, file_read}
use Rattle.jobfile.specs.Lengths.{type_words, series_words, file_bytes}
use Rattle.jobfile.specs.Job.{Admitted, job_of}
use Rattle.jobfile.specs.Layout.{word_count, words_of, layout}
use Rattle.jobfile.specs.Payload.{type_in, series_in, job_in}
use Rattle.jobfile.specs.Orders.{length_tests, content_tests, bound_tests, word_tests, reader_order, buffer_tests, writer_order}

pub record SizesFit (p n s : ℕ) : Type 0 where
  pub modulus : Modulus p
  pub n_from : 1 ≤ n
  pub n_to : n ≤ 8
  pub s_to : s ≤ 255

pub sizes_fit : (p n s : ℕ) → NoTest (sizes_order p n s) → SizesFit p n s
sizes_fit p n s t =
    let fit = sizes_passed p n s t in
    record { modulus = fit.0; n_from = fit.1; n_to = fit.2; s_to = fit.3 }

pub record LengthsFit (file d series : ℕ) : Type 0 where
  pub d_words : d ≡ type_words
  pub series_length : series ≡ series_words
  pub good : GoodLength file_bytes file

pub lengths_fit : (file d series : ℕ) → NoTest (length_tests file d series) → LengthsFit file d series
unfolding NoTest
lengths_fit file d series t =
    let lent = neither t.0 in
    record { d_words = same_of _ _ lent.0; series_length = same_of _ _ lent.1; good = good_length file_bytes file t.1.0 }

pub writer_passed : (p n s : ℕ) (d series : List ℕ) (out : ℕ) → NoTest (writer_order p n s d series out)
    → Admitted (job_of p n s d series) × (out ≡ file_bytes)
unfolding NoTest
writer_passed p n s d series out t =
    let fit = sizes_fit p n s (none_left (sizes_order p n s) (buffer_tests p n s d series out) t) in
    let lent = none_right (sizes_order p n s) (buffer_tests p n s d series out) t in
    let job = job_passed p n s d series lent.1 in (
      record {
        modulus = fit.modulus;
        n_from = fit.n_from;
        n_to = fit.n_to;
        s_to = fit.s_to;
        type_length = job.0;
        series_length = job.1;
        entries = entries_inside d job.2;
        coefficients = below p series (omega (arith, fit.modulus.prime.above_one)) job.3;
      },
      same_of out file_bytes lent.0,
    )

-- the words before the spare ones are those of the job that they say
pub words_in : (file : List ℕ) → up_to (word_count (payload_at file 1) (payload_at file 2)) (payload_at file) ≡ words_of (job_in file)
unfolding words_of job_in payload_part up_to
words_in file =
    let n = payload_at file 1 in
    let s = payload_at file 2 in
    up_to_append (3 + n) (n * s) (payload_at file)
    ∙ ap (λ (l : List ℕ). l ++ up_to (n * s) (λ i. payload_at file (3 + n + i))) (up_to_append 3 n (payload_at file))

module _ (file : List ℕ) (x y : ℕ) (t : NoTest (reader_order file x y)) where
  rest : NoTest (faults 0 (blocks_in file) file ++ word_tests file (payload_at file 0) (payload_at file 1) (payload_at file 2))
  rest = none_right (length_tests (length file) x y) _ t

  words : NoTest (word_tests file (payload_at file 0) (payload_at file 1) (payload_at file 2))
  words = none_right (faults 0 (blocks_in file) file) _ rest

  contents : NoTest (content_tests file (payload_at file 0) (payload_at file 1) (payload_at file 2))
  contents = none_right (sizes_order (payload_at file 0) (payload_at file 1) (payload_at file 2)) _ words

  counts : NoTest (count_tests file (word_count (payload_at file 1) (payload_at file 2)))
  counts = none_left (count_tests file (word_count (payload_at file 1) (payload_at file 2))) _ contents

  bounds : NoTest (bound_tests file (payload_at file 0) (payload_at file 1) (payload_at file 2))
  bounds = none_right (count_tests file (word_count (payload_at file 1) (payload_at file 2))) _ contents

  pub reader_lengths : LengthsFit (length file) x y
  reader_lengths = lengths_fit _ _ _ (none_left (length_tests (length file) x y) _ t)

  pub reader_sizes : SizesFit (payload_at file 0) (payload_at file 1) (payload_at file 2)
  reader_sizes = sizes_fit _ _ _ (none_left (sizes_order (payload_at file 0) (payload_at file 1) (payload_at file 2)) _ words)

  pub reader_blocks : blocks_in file ≡ blocks_for (word_count (payload_at file 1) (payload_at file 2))
  reader_blocks = counted file _ counts

  pub reader_admitted : Admitted (job_in file)
  unfolding NoTest job_in
  reader_admitted =
      let fit = reader_sizes in
      record {
        modulus = fit.modulus;
        n_from = fit.n_from;
        n_to = fit.n_to;
        s_to = fit.s_to;
        type_length = length_part file 3 _;
        series_length = length_part file _ _;
        entries = entries_inside (type_in file (payload_at file 1)) bounds.0;
        coefficients = below (payload_at file 0) (series_in file (payload_at file 1) (payload_at file 2)) (omega (arith, fit.modulus.prime.above_one)) bounds.1.0;
      }

  pub reader_layout : Bytes file → file ≡ layout (job_in file)
  unfolding layout
  reader_layout b =
      file_read file _ counts reader_lengths.good.whole (none_left (faults 0 (blocks_in file) file) _ rest) b ∙ ap file_of (words_in file)

-- where the words that are written lie
pub record ReadFits (file : List ℕ) (n s x y : ℕ) : Type 0 where
  pub type_lent : x ≡ type_words
  pub type_few : n ≤ type_words
  pub series_fits : n * s ≤ y
  pub in_file : word_count n s ≤ 125 * blocks_in file

pub reader_fits : (file : List ℕ) (x y n s : ℕ) → NoTest (reader_order file x y) → n ≡ payload_at file 1 → s ≡ payload_at file 2
    → ReadFits file n s x y
reader_fits file x y n s t en es =
    let lent = reader_lengths file x y t in
    let sizes = reader_sizes file x y t in
    let few = series_small n s (rw en sizes.n_to) (rw es sizes.s_to) in
    record {
      type_lent = lent.d_words;
      type_few = rw en sizes.n_to;
      series_fits = omega arith;
      in_file = count_fits file _ (rw (en, es) (reader_blocks file x y t));
    }
