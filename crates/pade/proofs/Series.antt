-- The words of the pair's two series: -1, and g after it.
use mathlib.Core.Path.{◌≡◌, refl, ap, sym, ◌∙◌}
use mathlib.Core.List.{List}
use Prim.Native.Nat.{ℕ, zero, suc, ◌+◌, ◌*◌, ◌-◌, ◌≤◌}
use native.Mathlib.Nat.{one-mul}
use native.Mathlib.Decide.{ℕ_discrete, dec_lt}
use native.Mathlib.Omega.{arith}
use lib.ListN.{length, set, length-set, take, replicate}
use lib.Seq.{get_or-set_same, get_or-set_other}
use Rattle.std.proofs.lemmas.List.{take-replicate, length-replicate}
use borrow.Rule.Slice.PartMut.{put_mid}
use Rattle.relation.specs.Pair.{pair_series}
use Rattle.relation.proofs.Pair.{minus_one_ends}
use Rattle.words.specs.Polynomial.{poly}
use Rattle.row.specs.View.{vector}
use Rattle.words.specs.Part.{part}
use Rattle.words.proofs.Part.{put, put_length, put_same, put_other}
use Rattle.row.proofs.Unit.{zero_word}
use Rattle.row.proofs.Part.{part_at, row_ext, vector_high}

-- past the second series there is nothing
no_third : (p : ℕ) (g : ℕ → ℕ) (i t : ℕ) → 2 ≤ i → pair_series p g i t ≡ 0
unfolding pair_series
no_third p g zero t h = absurd (omega arith)
no_third p g (suc zero) t h = absurd (omega arith)
no_third p g (suc (suc i)) t h = refl

module _ (p N : ℕ) (zs g : List ℕ) (hN : 1 ≤ N) (g-full : length g ≡ N) (full : length zs ≡ 2 * N) (zeros : (t : ℕ) → poly zs t ≡ 0) where
  fits : 1 * N + N ≤ length (set zs 0 (p - 1))
  fits = rw (length-set, one-mul) (omega arith)

  first : (t : ℕ) → poly (part N 0 (set zs 0 (p - 1))) t ≡ pair_series p (poly g) 0 t
  unfolding poly pair_series vector
  first t = elim (dec_lt t N) [
    | no h ↦ vector_high N (set zs 0 (p - 1)) 0 t (omega arith) ∙ sym (minus_one_ends p (poly g) t (omega arith))
    | yes h ↦ part_at N 0 (set zs 0 (p - 1)) t h ∙ (let e : 0 * N + t ≡ t = omega arith in rw e (elim (ℕ_discrete t 0) [
      | yes z ↦ rw z (get_or-set_same zs 0 (p - 1) 0 (omega arith))
      | no nz ↦ get_or-set_other zs 0 t (p - 1) 0 nz ∙ zeros t ∙ sym (minus_one_ends p (poly g) t nz)
    ]))
  ]

  at_one : vector N (put N 1 (set zs 0 (p - 1)) g) ≡ pair_series p (poly g)
  unfolding pair_series
  at_one =
      let other = put_other N 1 (set zs 0 (p - 1)) g fits g-full 0 (omega arith) in
      let same = put_same N 1 (set zs 0 (p - 1)) g fits g-full in
      row_ext 2 N (put N 1 (set zs 0 (p - 1)) g) (pair_series p (poly g)) (put_length N 1 (set zs 0 (p - 1)) g fits g-full ∙ length-set zs 0 (p - 1) ∙ full)
      (λ k h t. elim (ℕ_discrete k 0) [
        | yes e ↦ rw e (ap (λ (l : List ℕ). poly l t) other ∙ first t)
        | no ne ↦ (let e : k ≡ 1 = omega arith in rw e (ap (λ (l : List ℕ). poly l t) same))
      ])
      (no_third p (poly g))

  -- what is left of the words after the first N is N again
  rest : length (set zs 0 (p - 1)) - N ≡ N + N - N
  rest = omega (arith, length-set zs 0 (p - 1))

  pair_words_are : vector N (put_mid N (length (set zs 0 (p - 1)) - N) (set zs 0 (p - 1)) g) ≡ pair_series p (poly g)
  pair_words_are = rw rest (rw (one-mul N) at at_one)

-- the front of cleared words, after -1 and g were written to it
pub series_are : (p : ℕ) (g : List ℕ) → 1 ≤ length g → length g ≤ 255 →
    let N = length g in
    let xs = set (take (2 * N) (replicate {A = ℕ} 510 0)) 0 (p - 1) in
    vector N (put_mid N (length xs - N) xs g) ≡ pair_series p (poly g)
series_are p g h k =
    let cleared : take (2 * length g) (replicate {A = ℕ} 510 0) ≡ replicate {A = ℕ} (2 * length g) 0 = take-replicate (2 * length g) 510 0 (omega arith) in
    rw cleared (pair_words_are p (length g) (replicate (2 * length g) 0) g h refl (length-replicate _ 0) (zero_word (2 * length g)))
