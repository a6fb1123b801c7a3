-- The basis call answers, since the job is admitted, and the text is that of the words it left.
use Rattle.std.proofs.Common.{ap, refl}
use Rattle.engine.specs.Answers.{basis_says}
use Rattle.jobreport.proofs.Print.{printed, answers}
use Rattle.jobreport.proofs.print_basis.Goals as goal

pub unwrap-found-requires : goal.unwrap-found-requires
unwrap-found-requires c = answers _ c.requires.0 _ _ c.requires.1 _ c.basis.ensures c.basis.result refl

pub returns : goal.returns
returns c =
    printed _ c.requires.0 _ _ c.requires.1 _ c.basis.ensures _ _ _ _ _ (ap basis_says c.unwrap-found.ensures) c.write_basis.ensures
