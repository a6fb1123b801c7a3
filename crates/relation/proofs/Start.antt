-- The unit vectors are the reduced minimal basis of V_0.
use mathlib.Core.Path.{◌≡◌, sym}
use Prim.Native.Nat.{ℕ, ◌<◌}
use native.Mathlib.Decide.{ℕ_discrete}
use native.Mathlib.Omega.{arith}
use Rattle.field.specs.Prime.{Prime}
use Rattle.relation.specs.Vector.{Vect}
use Rattle.relation.specs.Operations.{unit}
use Rattle.relation.proofs.Vector.{unit_one, unit_high, unit_other, vec_unit}
use Rattle.relation.specs.Weight.{weight}
use Rattle.relation.specs.ReducedBasis.{WeightBasis, ReducedBasis}

module _ (p n : ℕ) (b : ℕ → ℕ) (F : Vect) (pr : Prime p) where
  pub start_basis : WeightBasis p n b F 0 unit (λ i. 0)
  start_basis = record {
    vec = λ i hi. vec_unit p n i pr.above_one hi;
    mem = λ i hi k hk. absurd (omega arith);
    lead = λ i hi. record {
      nonzero = λ z. let o : unit i i 0 ≡ 1 = unit_one i in omega arith;
      above = λ j k hj g. elim (ℕ_discrete j i) [
        | yes q ↦ unit_high i j k (λ z. start_at i j k q z g)
        | no nq ↦ unit_other i j k nq
      ];
    };
    least = λ i hi P vP mP d ld. omega arith;
  }
    where
      start_at : (i j k : ℕ) → j ≡ i → k ≡ 0 → weight n b i 0 < weight n b j k → ⊥
      start_at i j k q z g = let h : weight n b i 0 < weight n b i 0 = rw (q, z) at g in omega arith

  pub start : ReducedBasis p n b F 0 unit (λ i. 0)
  start = record {
    basis = start_basis;
    reduced = record {
      monic = λ i hi. unit_one i;
      clear = λ l k hl hk ne t g. unit_other l k t (λ q. ne (sym q));
    };
  }
