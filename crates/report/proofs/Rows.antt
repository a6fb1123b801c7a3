-- The rows of a basis, each with its number and its type entry, as `chunks_exact`, `zip` and `enumerate` give them.
use mathlib.Core.Path.{◌≡◌, sym, ap, ◌∙◌}
use mathlib.Core.Logic.{inl, inr}
use mathlib.Core.List.{List, ◌∷◌}
use Prim.Native.Nat.{ℕ, ◌+◌, ◌*◌, ◌/◌, ◌≤◌, ◌<◌}
use native.Mathlib.Nat.{mul-div_cancel, mul-pos}
use native.Mathlib.Numerals.{add-one}
use native.Mathlib.Omega.{arith}
use lib.ListN.{length, drop, get_or, length-drop}
use lib.Seq.{drop-cons}
use Rattle.std.specs.Prelude.{Option, Some, None}
use Rattle.std.specs.Borrow.{Bor}
use Rattle.std.specs.declared.slice.ChunksExact.{ChunksExact}
use Rattle.std.specs.declared.slice.Iter.{Iter}
use Rattle.std.specs.declared.iter.Zip.{Zip}
use Rattle.std.specs.declared.iter.Enumerate.{Enumerate}
use Rattle.std.specs.Slice.Iter.{chunks_exact_rest, chunks_exact_size, chunks_exact_steps, iter_rest, iter_steps}
use Rattle.std.specs.Iterator.Adapters.{enumerate_source, enumerate_count, enumerate_steps, zip_first, zip_second, zip_steps}
use Rattle.words.specs.Part.{part}
use Rattle.report.proofs.Chunks.{Cut, cut_start, cut_part, cut_more, cut_end}

abbrev pub Source : Type 0
Source = Enumerate (Zip (ChunksExact ℕ) (Iter ℕ))

abbrev pub source_steps : Source → Option (ℕ × (Bor (List ℕ) × Bor ℕ)) → Source → Type 0
source_steps = enumerate_steps (zip_steps chunks_exact_steps iter_steps)

-- k rows of a basis for the type d have come, each of entries of w words
pub record Rows (w : ℕ) (basis d : List ℕ) (k : ℕ) (s : Source) : Type 0 where
  pub cut : Cut (length d * w) basis k (zip_first (enumerate_source s))
  pub types : iter_rest (zip_second (enumerate_source s)) ≡ drop k d
  pub count : enumerate_count s ≡ k
  pub within : k ≤ length d

-- row k and its type entry
pub record Row (w : ℕ) (basis d : List ℕ) (k i : ℕ) (row : List ℕ) (entry : ℕ) : Type 0 where
  pub index : i ≡ k
  pub below : k < length d
  pub is : row ≡ part (length d * w) k basis
  pub long : length row ≡ length d * w
  pub entries : length row / w ≡ length d
  pub type : entry ≡ get_or d k 0

pub first_row : (w : ℕ) (basis d : List ℕ) (parts : ChunksExact ℕ) (pairs : Zip (ChunksExact ℕ) (Iter ℕ)) (s : Source)
    → enumerate_source s ≡ pairs → enumerate_count s ≡ 0 → zip_first pairs ≡ parts → iter_rest (zip_second pairs) ≡ d → chunks_exact_rest parts ≡ basis → chunks_exact_size parts ≡ length d * w
    → Rows w basis d 0 s
first_row w basis d parts pairs s e f g h a b = record {
  cut = rw (e, g) (cut_start _ _ parts a b);
  types = rw e h;
  count = f;
  within = omega arith;
}

module _ (w : ℕ) (basis d : List ℕ) (k : ℕ) (s t : Source) (c : Rows w basis d k s) where
  module _ (i : ℕ) (row : Bor (List ℕ)) (entry : Bor ℕ) (step : source_steps s (Some (i, (row, entry))) t) where
    first : drop k d ≡ entry.now ∷ iter_rest (zip_second (enumerate_source t))
    first = sym c.types ∙ step.0.1

    under : k < length d
    under = omega (arith, ap length first, length-drop k d)

    heads : (entry.now ≡ get_or d k 0) × (iter_rest (zip_second (enumerate_source t)) ≡ drop (k + 1) d)
    heads =
        let e = drop-cons d k 0 under in
        (cc, rw add-one (cc))

    pub this_row : 0 < w → Row w basis d k i row.now entry.now
    this_row wide =
        let e : row.now ≡ part (length d * w) k basis = cut_part _ _ _ (zip_first (enumerate_source s)) (zip_first (enumerate_source t)) c.cut row step.0.0 in
        let long : length row.now ≡ length d * w = step.0.0.1.1 ∙ c.cut.size in
        record {
          index = step.1 ∙ c.count;
          below = under;
          is = e;
          long = long;
          entries = ap (λ (n : ℕ). n / w) long ∙ mul-div_cancel (length d) wide;
          type = heads.0;
        }

    pub next_rows : Rows w basis d (k + 1) t
    next_rows = record {
      cut = cut_more _ _ _ (zip_first (enumerate_source s)) (zip_first (enumerate_source t)) c.cut row step.0.0;
      types = heads.1;
      count = step.2 ∙ ap (λ (n : ℕ). n + 1) c.count;
      within = omega (arith, under);
    }

  pub last_row : 0 < length d → 0 < w → length basis ≡ length d * (length d * w) → source_steps s None t → k ≡ length d
  last_row some wide full step = elim step.0 [
    | inl u ↦ cut_end _ _ _ (zip_first (enumerate_source s)) u.0 c.cut u.1 ∙ ap (λ (n : ℕ). n / (length d * w)) full ∙ mul-div_cancel (length d) (mul-pos some wide)
    | inr u ↦ omega (arith, u.1.0, ap length c.types, length-drop k d, c.within)
  ]
