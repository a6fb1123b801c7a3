-- The least row of the basis of -1 and g, at order N, is the pair.
--   retyped, releast     a basis is that of any type with the same entries
--   least_pair           the pair
use mathlib.Core.Path.{◌≡◌, refl, subst}
use mathlib.Core.List.{List, [], ◌∷◌}
use Prim.Native.Nat.{ℕ, zero, suc, ◌+◌, ◌-◌, ◌≤◌, ◌<◌}
use native.Mathlib.Omega.{arith}
use lib.ListN.{length, get_or}
use lib.IntN.{ℤ}
use Rattle.relation.specs.Vector.{Vect}
use Rattle.relation.specs.MinimalBasis.{MinimalBasis}
use Rattle.relation.specs.Approximant.{LeastRow}
use Rattle.relation.specs.Pair.{pair_series, pair_type}
use Rattle.relation.proofs.Integer.{minus_pos}
use Rattle.relation.proofs.Shift.{Offset}
use Rattle.relation.proofs.Bridge.{minimal→basis, basis→minimal, basis→least, least→basis, pivots_exist}
use Rattle.relation.proofs.Pair.{pair_order_is}
use Rattle.words.specs.Polynomial.{poly}
use Rattle.row.specs.View.{vector, row}
use Rattle.step.specs.Offset.{offset_of, TypeWords}
use Rattle.step.proofs.Order.{type_offset}
use Rattle.sizes.specs.Entry.{type_of}
use Rattle.sizes.proofs.Entry.{outside_above}
use Rattle.solve.specs.Found.{BasisFound}
use Rattle.pade.specs.PairSizes.{PairSizes}
use Rattle.pade.specs.Work.{LeastPair}

module _ {n B : ℕ} {d d' : ℕ → ℤ} {b : ℕ → ℕ} (o : Offset n d B b) (o' : Offset n d' B b) {p : ℕ} {F : Vect} {s : ℕ} {Q : ℕ → Vect} (mb : MinimalBasis p n F s d Q) where
  retyped : MinimalBasis p n F s d' Q
  retyped = basis→minimal o' (minimal→basis o mb (pivots_exist mb).1)

  releast : (i : ℕ) → LeastRow n d Q i → LeastRow n d' Q i
  releast i x =
      let wb = minimal→basis o mb (pivots_exist mb).1 in
      basis→least o' wb i x.row (least→basis o wb i x)

-- the type (k - 1, N - k)
abbrev pub pair_words : ℕ → ℕ → List ℕ
pair_words k N = (k - 1) ∷ (N - k) ∷ []

entries_small : (k N : ℕ) → k ≤ N → N ≤ 255 → (i : ℕ) → get_or (pair_words k N) i 0 ≤ 255
entries_small k N h g zero = omega arith
entries_small k N h g (suc zero) = omega arith
entries_small k N h g (suc (suc i)) = omega arith

pair_type_words : (k N : ℕ) → k ≤ N → N ≤ 255 → TypeWords 2 (pair_words k N)
pair_type_words k N h g = record { count = refl; inside = λ i hi o. omega (arith, outside_above (get_or (pair_words k N) i 0) o, entries_small k N h g i) }

type_agrees : (k N : ℕ) → 1 ≤ k → k ≤ N → (i : ℕ) → i < 2 → pair_type k N i ≡ type_of (pair_words k N) i
unfolding pair_type
type_agrees k N h g zero l = minus_pos k 1 h
type_agrees k N h g (suc zero) l = minus_pos N k g
type_agrees k N h g (suc (suc i)) l = absurd (omega arith)

pub least_pair : {p k : ℕ} {g F xs : List ℕ} {i c : ℕ} → PairSizes p k g → vector (length g) F ≡ pair_series p (poly g)
    → BasisFound p 2 (length g) (pair_words k (length g)) F xs i c → LeastPair p k g xs i
least_pair {p} {k} {g} {F} {xs} {i} z is f =
    let N = length g in
    let o = type_offset (pair_type_words k N z.k_to z.n_to) in
    let o' : Offset 2 (pair_type k N) 255 (offset_of (pair_words k N)) = record { at = λ j hj. rw (type_agrees k N z.k_from z.k_to j hj) (o.at j hj) } in
    let mb = subst (λ (G : Vect). MinimalBasis p 2 G N (type_of (pair_words k N)) (row 2 (N + 1) xs)) is f.minimal in
    record {
      full = f.full;
      row_of_two = f.least_row.row;
      pair = record {
        rows = row 2 (N + 1) xs;
        row = i;
        approximant = record { order = pair_order_is k N z.k_from z.k_to; basis = retyped o o' mb; reduced = f.reduced; least = releast o o' mb i f.least_row };
        first = λ x. refl;
        second = λ x. refl;
      };
    }
