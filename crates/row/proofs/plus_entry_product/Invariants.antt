-- `plus_entry_product` meets its contract: after t turns the first t terms of the product's coefficient are gathered, and past the end there are none.
use Prim.Native.Nat.{◌*◌, ◌-◌}
use Rattle.field.specs.Gathered.{Gathers}
use Rattle.relation.specs.Sum.{sum_to}
use Rattle.words.specs.Polynomial.{poly}
use Rattle.row.proofs.plus_entry_product.Given as goal

abbrev pub invariant-loop-t : goal.invariant-loop-t
invariant-loop-t l = Gathers l.t l.initial.sum (sum_to l.t (λ i. poly l.entry i * poly l.series (l.at - i))) l.sum
