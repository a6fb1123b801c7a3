-- The refusals' numbers, as document 01 lists them.
use Rattle.std.specs.Prelude.{ℕ}
use Rattle.field.specs.declared.Refusal.{Refusal}

abbrev pub number_of : Refusal → ℕ
number_of Refusal.Modulus = 1
number_of Refusal.Count = 2
number_of Refusal.Order = 3
number_of Refusal.Length = 4
number_of Refusal.Entry = 5
number_of Refusal.Coefficient = 6
number_of Refusal.Numerator = 7
number_of Refusal.FileLength = 8
number_of Refusal.BlockNumber = 9
number_of Refusal.Check = 10
number_of Refusal.BlockCount = 11
number_of Refusal.SpareWord = 12
number_of Refusal.NoFraction = 13
number_of Refusal.Sets = 14
