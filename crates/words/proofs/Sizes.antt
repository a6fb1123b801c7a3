-- The largest lengths that document 01 admits.
use Prim.Native.Nat.{ℕ, ◌+◌, ◌*◌, ◌≤◌}
use native.Mathlib.Nat.{mul-le-mul}
use native.Mathlib.Omega.{arith}

pub row_small : (n w : ℕ) → n ≤ 8 → w ≤ 256 → n * w ≤ 2048
row_small n w hn hw = mul-le-mul {n₂ = 8} {m₂ = 256} hn hw

pub series_small : (n s : ℕ) → n ≤ 8 → s ≤ 255 → n * s ≤ 2040
series_small n s hn hs = mul-le-mul {n₂ = 8} {m₂ = 255} hn hs

pub basis_small : (n s : ℕ) → n ≤ 8 → s ≤ 255 → n * (n * (s + 1)) ≤ 16384
basis_small n s hn hs = mul-le-mul {n₂ = 8} {m₂ = 2048} hn (row_small n (s + 1) hn (omega arith))
