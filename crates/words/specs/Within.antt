-- Within: each word of a list is below a bound above 0; past the end there is 0.
use Rattle.std.specs.Prelude.{List, ℕ, ◌<◌, get_or}

abbrev pub Within : ℕ → List ℕ → Type 0
Within b l = (i : ℕ) → get_or l i 0 < b
