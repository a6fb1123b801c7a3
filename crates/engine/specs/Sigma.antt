-- The order at which the approximant call works: σ of the type that the words d say. From one entry on σ is not negative.
use Rattle.std.specs.Prelude.{List, ℕ, nat_abs}
use Rattle.relation.specs.Sigma.{sigma_of}
use Rattle.sizes.specs.Entry.{type_of}

unfoldable pub order_of : ℕ → List ℕ → ℕ
order_of n d = nat_abs (sigma_of n (type_of d))
