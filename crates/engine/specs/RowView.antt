-- The row view: row i, counted from 1, of a lent basis, or the empty part where the arguments do not fit.
use Rattle.std.specs.Prelude.{◌≡◌, List, [], ℕ, ◌+◌, ◌*◌, ◌-◌, ◌≤◌, length}
use Rattle.words.specs.Part.{part}
use Rattle.sizes.specs.Lengths.{basis_length}

-- the sizes fit a lent basis of that many words
pub record ViewFits (words n s i : ℕ) : Type 0 where
  pub n_from : 1 ≤ n
  pub n_to : n ≤ 8
  pub s_to : s ≤ 255
  pub i_from : 1 ≤ i
  pub i_to : i ≤ n
  pub full : words ≡ basis_length n s

pub record RowViewed (basis : List ℕ) (n s i : ℕ) (view : List ℕ) : Type 0 where
  pub fits : ViewFits (length basis) n s i → view ≡ part (n * (s + 1)) (i - 1) basis
  pub misfits : ¬ (ViewFits (length basis) n s i) → view ≡ []
