-- `lay_out` meets its contract: the writer does not refuse an admitted job.
use mathlib.Core.Path.{◌≡◌, refl, ap, sym, ◌∙◌}
use mathlib.Core.List.{[], ◌∷◌}
use Prim.Native.Nat.{ℕ}
use borrow.Author.Rules.{rules}
use Rattle.std.specs.Prelude.{Result, Ok, Err, IsOk}
use Rattle.field.specs.Answer.{result}
use Rattle.field.specs.declared.Refusal.{Refusal}
use Rattle.jobfile.specs.Answers.{write_says}
use Rattle.jobfile.proofs.Theorems.{writes_admitted}
use Rattle.jobmake.proofs.MadeOf.{laid_out}
use Rattle.jobmake.proofs.lay_out.Goals as goal

not_refused : (r : Result ℕ Refusal) (m : ℕ) → write_says r ≡ result (m ∷ []) → IsOk r
not_refused (Ok k) m e = refl
not_refused (Err q) m e = cc

pub unwrap-requires : goal.unwrap-requires
unwrap-requires c =
    let written = writes_admitted _ _ _ _ _ _ _ _ c.write_job.ensures c.requires (search rules) in
    not_refused _ _ written.says

pub returns : goal.returns
returns c =
    let written = writes_admitted _ _ _ _ _ _ _ _ c.write_job.ensures c.requires (search rules) in
    (laid_out _ c.requires _ (sym (ap write_says c.unwrap.ensures) ∙ written.says), written.file_written)
