-- A row of zeros with a 1 at the start of entry i is row i of the identity.
use mathlib.Core.Path.{◌≡◌, sym, ◌∙◌}
use mathlib.Core.Logic.{◌≢◌}
use mathlib.Core.List.{List}
use Prim.Native.Nat.{ℕ, ◌+◌, ◌*◌, ◌<◌}
use native.Mathlib.Nat.{add-zero}
use native.Mathlib.Decide.{ℕ_discrete, dec_lt}
use native.Mathlib.Omega.{arith}
use lib.ListN.{length, replicate, set, length-set}
use lib.Seq.{get_or-set_same, get_or-set_other}
use Rattle.std.proofs.lemmas.List.{get_or-replicate, length-replicate}
use Rattle.relation.specs.Operations.{unit}
use Rattle.relation.proofs.Vector.{unit_other, unit_high, unit_one}
use Rattle.words.specs.Polynomial.{poly}
use Rattle.row.specs.View.{vector}
use Rattle.words.proofs.Part.{part_fits, part_before}
use Rattle.row.proofs.Part.{part_at, poly_past, row_ext, vector_high}

pub zero_word : (n t : ℕ) → poly (replicate n 0) t ≡ 0
unfolding poly
zero_word n t = elim (dec_lt t n) [
  | yes h ↦ get_or-replicate n t 0 0 h
  | no h ↦ poly_past (replicate n 0) t (omega (arith, length-replicate {A = ℕ} n 0))
]

module _ (n w i : ℕ) (zs : List ℕ) (full : length zs ≡ n * w) (i<n : i < n) (0<w : 0 < w) (zero : (t : ℕ) → poly zs t ≡ 0) where
  -- entries do not meet
  apart : (k t : ℕ) → t < w → k ≢ i → k * w + t ≢ i * w
  apart k t h ne e = elim (dec_lt k i) [
    | yes g ↦ omega (arith, part_before w k i g)
    | no g ↦ omega (arith, part_before w i k (omega arith))
  ]

  at : (k t : ℕ) → t < w → poly (set zs (i * w) 1) (k * w + t) ≡ unit i k t
  unfolding poly
  at k t h = elim (ℕ_discrete k i) [
    | no ne ↦ get_or-set_other zs (i * w) (k * w + t) 1 0 (apart k t h ne) ∙ zero _ ∙ sym (unit_other i k t ne)
    | yes e ↦ elim (ℕ_discrete t 0) [
      | yes z ↦ rw (e, z, add-zero) (get_or-set_same zs (i * w) 1 0 (omega (arith, part_fits n w i i<n)) ∙ sym (unit_one i))
      | no z ↦ rw e (get_or-set_other zs (i * w) (i * w + t) 1 0 (omega arith) ∙ zero _ ∙ sym (unit_high i i t z))
    ]
  ]

  pub unit_words : vector w (set zs (i * w) 1) ≡ unit i
  unfolding vector
  unit_words = row_ext n w (set zs (i * w) 1) (unit i) (length-set zs (i * w) 1 ∙ full)
      (λ k hk t. elim (dec_lt t w) [
        | yes h ↦ part_at w k (set zs (i * w) 1) t h ∙ at k t h
        | no h ↦ vector_high w (set zs (i * w) 1) k t (omega arith) ∙ sym (unit_high i k t (omega arith))
      ])
      (λ k t h. unit_other i k t (omega arith))
