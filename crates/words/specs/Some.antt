-- Some: some word of a list has the property.
use Rattle.std.specs.Prelude.{List, ℕ, ◌<◌, length, get_or}

abbrev pub Some : (ℕ → Type 0) → List ℕ → Type 0
Some Bad l = (i : ℕ) × (i < length l) × Bad (get_or l i 0)
