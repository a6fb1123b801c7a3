-- What the parser answers is what the text's job says.
use mathlib.Core.Path.{◌≡◌, ap}
use mathlib.Core.List.{List}
use Prim.Native.Nat.{ℕ}
use Rattle.std.specs.Prelude.{Result, Ok, Err, MatchResult}
use Rattle.sizes.specs.declared.JobSizes.{JobSizes}
use Rattle.jobtext.specs.declared.Fault.{Fault}
use Rattle.jobtext.specs.Job.{JobText, job, wrong}
use Rattle.jobtext.specs.Reading.{Follows}
use Rattle.embed.specs.Parsing.{fault_line}

abbrev pub line_of : Result JobSizes Fault → ℕ
line_of (Ok sizes) = 0
line_of (Err fault) = fault.line

pub line_told : (j : JobText) (r : Result JobSizes Fault) (d d' series series' : List ℕ) → Follows j r d d' series series' → line_of r ≡ fault_line j
unfolding Follows
line_told (job p n s d f) r types types' series series' h = ap line_of h.0
line_told (wrong slip line) r types types' series series' h = ap line_of h.0

-- a line that is chosen by the two cases
pub line_chosen : {P : JobSizes → Type 0} {Q : Fault → Type 0} (r : Result JobSizes Fault) (line : ℕ) → ((x : JobSizes) → P x → line ≡ 0) → ((e : Fault) → Q e → line ≡ e.line)
    → MatchResult r P Q → line ≡ line_of r
line_chosen (Ok x) line of-value of-fault h = of-value x h
line_chosen (Err e) line of-value of-fault h = of-fault e h
