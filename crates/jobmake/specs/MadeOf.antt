-- MadeOf: what is made of a text: the layout of its job, or the message that says what is wrong with it.
-- Each stands in the first bytes of its buffer, and its length is answered; no other byte changes.
use Rattle.std.specs.Prelude.{◌≡◌, List, ℕ, length, Result, Ok, Err}
use Rattle.jobfile.specs.Job.{job_of}
use Rattle.jobfile.specs.Layout.{layout}
use Rattle.words.specs.Lent.{over}
use Rattle.jobtext.specs.Job.{JobText, job, wrong}
use Rattle.jobtext.specs.Message.{message}
use Rattle.jobmake.specs.declared.Message.{Message}

-- the buffers are lent as `file` and `words` and left as `file'` and `words'`
unfoldable pub MadeOf : JobText → Result ℕ Message → List ℕ → List ℕ → List ℕ → List ℕ → Type 0
MadeOf (job p n s d f) r file file' words words' =
    (r ≡ Ok (length (layout (job_of p n s d f)))) × (file' ≡ over (layout (job_of p n s d f)) file) × (words' ≡ words)
MadeOf (wrong slip line) r file file' words words' =
    (r ≡ Err (record { length = length (message slip line) })) × (words' ≡ over (message slip line) words) × (file' ≡ file)
