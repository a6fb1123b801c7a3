-- The words gathered are the job's, so that their file is the job's layout.
use Rattle.std.proofs.Common.{ap, ◌∙◌, List, [], ◌∷◌, ℕ, arith, length}
use Rattle.field.specs.Answer.{result}
use Rattle.block.specs.File.{blocks_for, file_of}
use Rattle.words.specs.Lent.{over}
use Rattle.jobfile.specs.Job.{lent_job}
use Rattle.jobfile.specs.Layout.{layout}
use Rattle.jobfile.proofs.LaidOut.{length_words, blocks_few}
use Rattle.jobfile.proofs.write_tested.Goals as goal

pub write_file-requires-clause-out_room : goal.write_file-requires-clause-out_room
write_file-requires-clause-out_room c =
    let job = lent_job c.args.job in
    let a = c.requires.0 in
    rw (c.gather.ensures, length_words job a) (omega (arith, (blocks_few job a).1))

pub returns : goal.returns
unfolding layout
returns c =
    let lent = c.args.out.now in
    let wrote = c.write_file.ensures in
    record {
      says = ap (λ (m : ℕ). result (m ∷ [])) (wrote.0 ∙ ap (λ (l : List ℕ). blocks_for (length l)) c.gather.ensures);
      file_written = wrote.1 ∙ ap (λ (l : List ℕ). over (file_of l) lent) c.gather.ensures;
    }
