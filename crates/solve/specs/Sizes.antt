-- The admitted sizes of document 01 for a basis of order s, in `basis` words, as they are known where no test of a call holds.
use Rattle.std.specs.Prelude.{◌≡◌, List, ℕ, ◌*◌, ◌≤◌, length}
use Rattle.field.specs.Modulus.{Modulus}
use Rattle.words.specs.Some.{Some}
use Rattle.sizes.specs.Entry.{EntryOutside}
use Rattle.sizes.specs.Lengths.{basis_length}

pub record Sizes (p n s : ℕ) (d series : List ℕ) (basis : ℕ) : Type 0 where
  pub modulus : Modulus p
  pub n_from : 1 ≤ n
  pub n_to : n ≤ 8
  pub s_to : s ≤ 255
  pub type_length : length d ≡ n
  pub series_length : length series ≡ n * s
  pub basis_words : basis ≡ basis_length n s
  pub entries : ¬ (Some EntryOutside d)
