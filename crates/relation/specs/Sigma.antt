-- σ, the order of a type: (d_1 + 1) + .. + (d_n + 1) - 1.
use Rattle.std.specs.Prelude.{ℕ, zero, suc, ℤ, pos, ◌+ℤ◌, ◌-ℤ◌}

-- f 0 + f 1 + .. + f (k - 1)
unfoldable pub sumℤ : ℕ → (ℕ → ℤ) → ℤ
sumℤ zero f = pos 0
sumℤ (suc k) f = sumℤ k f +ℤ f k

unfoldable pub sigma_of : ℕ → (ℕ → ℤ) → ℤ
sigma_of n d = sumℤ n (λ i. d i +ℤ pos 1) -ℤ pos 1
