-- The entries of the least row are divided by the constant term of the second.
use Rattle.std.proofs.Common.{◌≡◌, ◌∙◌, arith}
use Rattle.pade.proofs.Lowest.{entry_words, row_length, entry_length, front_is, back_is, constant_small, fraction_or_none}
use Rattle.pade.proofs.Request.write_fraction.Goals as goal
use Rattle.pade.proofs.Request.write_fraction.Goals.{After-split_at}

numerator : (c : After-split_at) → c.split_at.result.0.now ≡ entry_words c.args.self.g.now c.least_row-i.new.basis c.least_row-i.result 0
numerator c = (rw c.part_at-row.ensures at c.split_at.ensures.front) ∙ front_is c.least_row-i.ensures

denominator : (c : After-split_at) → c.split_at.result.1.now ≡ entry_words c.args.self.g.now c.least_row-i.new.basis c.least_row-i.result 1
denominator c = (rw c.part_at-row.ensures at c.split_at.ensures.back) ∙ back_is c.least_row-i.ensures

pub split_at-requires : goal.split_at-requires
split_at-requires c = rw c.part_at-row.ensures (omega (arith, row_length c.least_row-i.ensures))

pub divide-requires : goal.divide-requires
divide-requires c =
    let f = c.least_row-i.ensures in
    let z = c.args.self.sizes in
    let s = (goal.at.divide-requires c).After-split_at in
    rw (numerator s, denominator s) (
      z.modulus.prime,
      omega (arith, entry_length f 0 (omega arith), c.requires.0, z.k_to),
      omega (arith, entry_length f 1 (omega arith), c.requires.1),
      omega (arith, c.requires.0, z.k_from),
      omega (arith, c.requires.1),
      constant_small f z,
    )

pub returns : goal.returns
returns c =
    let s = (goal.at.returns c).After-split_at in
    fraction_or_none c.least_row-i.ensures _ _ (record { sizes = c.args.self.sizes; r_words = c.requires.0; t_words = c.requires.1 }) _ _ _
    (rw (numerator s, denominator s) at c.divide.ensures)
