-- The admitted sizes of document 01 for many sets, in that many words, as they are known where no test of the whole call holds.
use Rattle.std.proofs.Common.{◌≡◌, List, ℕ, ◌*◌, ◌≤◌, length}
use Rattle.field.specs.Modulus.{Modulus}
use Rattle.words.specs.Some.{Some}
use Rattle.sizes.specs.Entry.{EntryOutside}
use Rattle.sizes.specs.Lengths.{basis_length}
use Rattle.sets.specs.Answer.{answer_length}

pub record BasesSizes (p n s sets : ℕ) (d : List ℕ) (series bases answers : ℕ) : Type 0 where
  pub modulus : Modulus p
  pub n_from : 1 ≤ n
  pub n_to : n ≤ 8
  pub s_to : s ≤ 255
  pub type_length : length d ≡ n
  pub series_length : series ≡ sets * (n * s)
  pub bases_words : bases ≡ sets * basis_length n s
  pub answers_words : answers ≡ sets * answer_length
  pub entries : ¬ (Some EntryOutside d)
