-- Reading: what each part of the parser answers, as a step of the definition: how the definition goes on with the tokens t' that the part left.
use Rattle.std.specs.Prelude.{◌≡◌, Bool, true, List, ℕ, length, Result, Ok, Err}
use Rattle.sizes.specs.declared.JobSizes.{JobSizes}
use Rattle.jobtext.specs.declared.Fault.{Fault}
use Rattle.jobtext.specs.declared.Slip.{Slip}
use Rattle.tokens.specs.declared.Position.{Position}
use Rattle.tokens.specs.Tokens.{Tokens, rest}
use Rattle.words.specs.Lent.{over}
use Rattle.jobtext.specs.Job.{JobText, job, wrong, tested, one_number, many_numbers, at_end}

-- the tokens of a text from a position on
abbrev pub ahead : List ℕ → Position → Tokens
ahead text here = rest text here.at here.line

abbrev pub fault_at : Slip → ℕ → Fault
fault_at slip l = record { slip = slip; line = l }

-- one number is taken, which stands on line l
unfoldable pub Takes : Tokens → Result ℕ Fault → ℕ → Tokens → Type 0
Takes t (Ok v) l t' = (ok : ℕ → Bool) (slip : Slip) (go : ℕ → Tokens → JobText) → one_number ok slip go t ≡ tested ok slip go v l t'
Takes t (Err e) l t' = (ok : ℕ → Bool) (slip : Slip) (go : ℕ → Tokens → JobText) → one_number ok slip go t ≡ wrong e.slip e.line

-- one number is taken, which passes the test
unfoldable pub Passes : (ℕ → Bool) → Slip → Tokens → Result ℕ Fault → Tokens → Type 0
Passes ok slip t (Ok v) t' = (ok v ≡ true) × ((go : ℕ → Tokens → JobText) → one_number ok slip go t ≡ go v t')
Passes ok slip t (Err e) t' = (go : ℕ → Tokens → JobText) → one_number ok slip go t ≡ wrong e.slip e.line

-- as many numbers are taken as the list has, and each passes the test
unfoldable pub Fills : (ℕ → Bool) → Slip → Tokens → List ℕ → Result Unit Fault → Tokens → Type 0
Fills ok slip t values (Ok u) t' = (go : List ℕ → Tokens → JobText) → many_numbers ok slip (length values) go t ≡ go values t'
Fills ok slip t values (Err e) t' = (go : List ℕ → Tokens → JobText) → many_numbers ok slip (length values) go t ≡ wrong e.slip e.line

-- nothing more is there
unfoldable pub Ends : Tokens → Result Unit Fault → Type 0
Ends t (Ok u) = (j : JobText) → at_end j t ≡ j
Ends t (Err e) = (j : JobText) → at_end j t ≡ wrong e.slip e.line

-- what the parser answers and leaves in the lent buffers, for the job of the text
unfoldable pub Follows : JobText → Result JobSizes Fault → List ℕ → List ℕ → List ℕ → List ℕ → Type 0
Follows (job p n s d f) r types types' series series' = (r ≡ Ok (record { p = p; n = n; s = s })) × (types' ≡ over d types) × (series' ≡ over f series)
Follows (wrong slip l) r types types' series series' = (r ≡ Err (fault_at slip l)) × (types' ≡ types) × (series' ≡ series)
