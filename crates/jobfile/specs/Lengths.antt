-- The lengths of the reader's lent buffers and of the largest file (document 01, "Job file").
use Rattle.std.specs.Prelude.{ℕ}

abbrev pub type_words : ℕ
type_words = 8

abbrev pub series_words : ℕ
series_words = 2040

-- 17 blocks
abbrev pub file_bytes : ℕ
file_bytes = 8704
