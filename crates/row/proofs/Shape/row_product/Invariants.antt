-- `Shape::row_product` meets its contract: after k turns the products of the first k entries are gathered, and all of them have room.
use Prim.Native.Nat.{◌+◌, ◌*◌, ◌-◌}
use Rattle.field.specs.Gathered.{Gathers}
use Rattle.row.specs.View.{vector}
use Rattle.relation.specs.Sum.{sum_to}
use Rattle.relation.specs.Product.{conv}
use Rattle.row.proofs.Shape.row_product.Given as goal

abbrev pub invariant-loop-k : goal.invariant-loop-k
invariant-loop-k l = Gathers (l.k * (l.at + 1)) l.initial.sum (sum_to l.k (λ i. conv (vector l.self.width l.row i) (vector (l.self.width - 1) l.series i) l.at)) l.sum
