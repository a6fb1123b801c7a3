-- The test of the set's coefficients decides between 6, which writes nothing, and the basis.
use Rattle.std.proofs.Common.{◌*◌}
use Rattle.words.proofs.Part.{part_length, part_fits}
use Rattle.sets.proofs.Alone.{refused_set, answered_set}
use borrow.Author.Rules.{rules}
use native.Mathlib.Omega.{arith}
use Rattle.sets.proofs.Sets.set_basis.Goals as goal

pub returns-then-any_from : goal.returns-then-any_from
returns-then-any_from c = search (rules, refused_set)

pub invariant_of-problem : goal.invariant_of-problem
invariant_of-problem c =
    let sets = c.args.self.now in
    record {
      prime = sets.prime;
      few = sets.few;
      short = sets.short;
      types = sets.types;
      full = rw c.part_at-set.ensures (part_length (sets.n * sets.s) c.args.j sets.series.now (omega (arith, sets.full, part_fits sets.count (sets.n * sets.s) c.args.j (omega arith))));
    }

pub returns : goal.returns
returns c = search (rules, answered_set)
