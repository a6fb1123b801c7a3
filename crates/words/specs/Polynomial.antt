-- Words as a polynomial, low coefficient first.
use Rattle.std.specs.Prelude.{List, ℕ, get_or}

-- the coefficients of a list, and zero past its end
unfoldable pub poly : List ℕ → ℕ → ℕ
poly l t = get_or l t 0
