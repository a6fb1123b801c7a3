-- The refusals of the reader and of the writer, in document 01's order: each number beside its test. Lent buffers that are written
-- stand here by their lengths.
use Rattle.std.specs.Prelude.{◌⊎◌, ◌≢◌, List, [], ◌∷◌, ◌++◌, ℕ, length}
use Rattle.field.specs.Refusal.{Order, ◌when◌}
use Rattle.sizes.specs.Orders.{sizes_order, entries_order, coefficients_order, job_order}
use Rattle.block.specs.Part.{blocks_in, payload_at}
use Rattle.block.specs.Length.{BadLength}
use Rattle.block.specs.Fault.{faults}
use Rattle.block.specs.Count.{count_tests}
use Rattle.jobfile.specs.Lengths.{type_words, series_words, file_bytes}
use Rattle.jobfile.specs.Layout.{word_count}
use Rattle.jobfile.specs.Payload.{type_in, series_in}

-- 4; 8: of a file of so many bytes, and so many words lent for the type and for the series
abbrev pub length_tests : ℕ → ℕ → ℕ → Order
length_tests file d series =
    (4 when ((d ≢ type_words) ⊎ (series ≢ series_words)))
    ∷ (8 when (BadLength file_bytes file))
    ∷ []

-- 5, 6
abbrev pub bound_tests : List ℕ → ℕ → ℕ → ℕ → Order
bound_tests file p n s = entries_order (type_in file n) ++ coefficients_order p (series_in file n s)

-- 11, 12, 5, 6
abbrev pub content_tests : List ℕ → ℕ → ℕ → ℕ → Order
content_tests file p n s = count_tests file (word_count n s) ++ bound_tests file p n s

-- what is tested of the words: p, n and s are the first three of the payloads joined
abbrev pub word_tests : List ℕ → ℕ → ℕ → ℕ → Order
word_tests file p n s = sizes_order p n s ++ content_tests file p n s

-- "Reader: 4; 8; then block by block 9, 10; then 1, 2, 3, 11, 12, 5, 6."
abbrev pub reader_order : List ℕ → ℕ → ℕ → Order
reader_order file d series =
    length_tests (length file) d series
    ++ (faults 0 (blocks_in file) file
    ++ word_tests file (payload_at file 0) (payload_at file 1) (payload_at file 2))

-- 4 for the lent output, which has the bytes of the largest file, 4 for type and series, 5, 6
abbrev pub buffer_tests : ℕ → ℕ → ℕ → List ℕ → List ℕ → ℕ → Order
buffer_tests p n s d series out = (4 when (out ≢ file_bytes)) ∷ job_order p n s d series

-- the writer, as the basis call: 1, 2, 3, 4, 5, 6
abbrev pub writer_order : ℕ → ℕ → ℕ → List ℕ → List ℕ → ℕ → Order
writer_order p n s d series out = sizes_order p n s ++ buffer_tests p n s d series out
