-- No second answer follows the same job.
use mathlib.Core.Path.{◌≡◌, sym, ◌∙◌}
use mathlib.Core.List.{List}
use Prim.Native.Nat.{ℕ}
use Rattle.std.specs.Prelude.{Result}
use Rattle.sizes.specs.declared.JobSizes.{JobSizes}
use Rattle.jobtext.specs.declared.Fault.{Fault}
use Rattle.jobtext.specs.Job.{JobText, job, wrong}
use Rattle.jobtext.specs.Reading.{Follows}

pub parse_unique : (j : JobText) (r r' : Result JobSizes Fault) (a b b' c d d' : List ℕ) → Follows j r a b c d → Follows j r' a b' c d' → (r ≡ r') × (b ≡ b') × (d ≡ d')
unfolding Follows
parse_unique (job p n s x f) r r' a b b' c d d' h g = (h.0 ∙ sym g.0, h.1 ∙ sym g.1, h.2 ∙ sym g.2)
parse_unique (wrong e l) r r' a b b' c d d' h g = (h.0 ∙ sym g.0, h.1 ∙ sym g.1, h.2 ∙ sym g.2)
