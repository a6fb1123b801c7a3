-- Shape: what a call takes: some single numbers, and behind them some slices.
use Rattle.std.specs.Prelude.{◌≡◌, List, ℕ, suc, ◌+◌, ◌<◌, length, get_or}

-- each of the first arguments is one number, so that argument i ends at i + 1
pub record Shape (numbers slices : ℕ) (ends : List ℕ) : Type 0 where
  pub count : length ends ≡ numbers + slices
  pub single : (i : ℕ) → i < numbers → get_or ends i 0 ≡ suc i
