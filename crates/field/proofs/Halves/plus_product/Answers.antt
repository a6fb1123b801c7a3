-- Half a word times a word fits 48 bits.
use Rattle.std.proofs.Common.{arith}
use Rattle.field.proofs.Gathered.{part_products, halves_plus}
use Rattle.field.proofs.Halves.plus_product.Goals as goal

pub returns : goal.returns
returns c =
    let p = part_products 16 32 c.args.a c.args.b (omega arith) (omega arith) in
    record { sum = halves_plus 16 _ _ _ _; room = λ m fits. record { low = omega arith; high = omega arith } }
