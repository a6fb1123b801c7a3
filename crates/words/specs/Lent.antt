-- A lent buffer of which only the first places change.
use Rattle.std.specs.Prelude.{List, ◌++◌, ℕ, length, drop}

-- what was lent, with ws written over its first places
abbrev pub over : List ℕ → List ℕ → List ℕ
over ws lent = ws ++ drop (length ws) lent
