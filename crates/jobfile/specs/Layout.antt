-- The layout of a job file (document 01, "Job file"): p, n, s, the type entries, then the series, in just enough blocks.
use Rattle.std.specs.Prelude.{List, ◌∷◌, ◌++◌, ℕ, ◌+◌, ◌*◌}
use Rattle.block.specs.File.{file_of}
use Rattle.jobfile.specs.Job.{Job}

-- the payloads joined
unfoldable pub words_of : Job → List ℕ
words_of j = j.p ∷ j.n ∷ j.s ∷ (j.d ++ j.series)

-- how many words that is
abbrev pub word_count : ℕ → ℕ → ℕ
word_count n s = 3 + n + n * s

-- the file's bytes
unfoldable pub layout : Job → List ℕ
layout j = file_of (words_of j)
