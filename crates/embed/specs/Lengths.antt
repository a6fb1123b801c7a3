-- The lengths of the answer buffers: how many words each answer has.
use Rattle.std.specs.Prelude.{ℕ}

abbrev pub residue_answer_length : ℕ
residue_answer_length = 1

-- how many blocks or bytes were written
abbrev pub count_answer_length : ℕ
count_answer_length = 1

-- the least row's number, and how many orders made V smaller
abbrev pub basis_answer_length : ℕ
basis_answer_length = 2

-- where a row starts, and its length
abbrev pub row_answer_length : ℕ
row_answer_length = 2

-- p, n and s
abbrev pub job_answer_length : ℕ
job_answer_length = 3
