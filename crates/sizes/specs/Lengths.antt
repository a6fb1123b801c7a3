-- The lengths of buffers (document 01, "Buffers").
use Rattle.std.specs.Prelude.{ℕ, ◌+◌, ◌*◌}

-- a basis: n rows of n entries of s + 1 words
abbrev pub basis_length : ℕ → ℕ → ℕ
basis_length n s = n * (n * (s + 1))
