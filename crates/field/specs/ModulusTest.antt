-- is_modulus: an admitted modulus as a test that can be computed: above 1, at most the largest, and no number from 2 to p - 1 divides it.
use Rattle.std.specs.Prelude.{ℕ, zero, suc, ◌+◌, ◌-◌, ◌%◌, Bool, true, not, ◌&&◌, ◌==◌, nat_le, nat_lt}
use Rattle.field.specs.Modulus.{largest}

-- none of the k numbers from 2 on divides p
unfoldable pub none_divides : ℕ → ℕ → Bool
none_divides p zero = true
none_divides p (suc k) = not (p % (2 + k) == 0) && none_divides p k

unfoldable pub is_modulus : ℕ → Bool
is_modulus p = nat_lt 1 p && nat_le p largest && none_divides p (p - 2)
