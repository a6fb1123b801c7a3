-- Argument: one argument of a request, as a part of its numbers.
use Rattle.std.specs.Prelude.{List, ℕ, zero, suc, ◌-◌, get_or, take, drop}

-- where argument i begins: where the one before ends
unfoldable pub start_of : List ℕ → ℕ → ℕ
start_of ends zero = 0
start_of ends (suc i) = get_or ends i 0

unfoldable pub argument_of : List ℕ → List ℕ → ℕ → List ℕ
argument_of numbers ends i = take (get_or ends i 0 - start_of ends i) (drop (start_of ends i) numbers)
