-- A product of words of two widths, and a word more, fit both widths together.
use Rattle.std.proofs.Common.{ℕ, suc, ◌+◌, ◌*◌, ◌^◌, ◌<◌, ◌≤◌, mul-le-mul_right, suc-mul, mul-le-mul_left, arith, pow-add}

pub sum_product : (v w a b c : ℕ) → a < 2 ^ w → b < 2 ^ v → c < 2 ^ w → a + b * c < 2 ^ (v + w)
sum_product v w a b c ha hb hc =
    let l : b * c ≤ b * 2 ^ w = mul-le-mul_left b (omega arith) in
    let m : suc b * 2 ^ w ≤ 2 ^ v * 2 ^ w = mul-le-mul_right (2 ^ w) hb in
    rw (pow-add 2 v w) (omega (arith, suc-mul b (2 ^ w)))
