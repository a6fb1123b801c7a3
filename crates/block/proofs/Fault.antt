-- Faults of blocks in turn: how a scan finds the first, and that there is none exactly where each block has its number and is sound.
use Rattle.std.proofs.Common.{◌≡◌, ℕ, zero, suc, ◌+◌, ◌-◌, ◌*◌, ◌<◌, ◌≢◌, List, ◌++◌, Option, Some, None, Result, Ok, Err, length, take, drop, ap, ◌∙◌, add-zero, arith}
use lib.ListN.{length-append}
use lib.Seq.{take_at, drop_at}
use Rattle.std.specs.Borrow.{Bor}
use Rattle.std.specs.declared.slice.ChunksExact.{ChunksExact}
use Rattle.std.specs.declared.iter.Enumerate.{Enumerate}
use Rattle.std.specs.Slice.Iter.{chunks_exact_rest, chunks_exact_size, chunks_exact_steps}
use Rattle.std.specs.Iterator.Adapters.{enumerate_source, enumerate_count, enumerate_steps}
use Rattle.field.specs.declared.Refusal.{Refusal}
use Rattle.field.specs.Refusal.{Order, NoTest}
use Rattle.field.specs.Calls.{Tests}
use Rattle.field.proofs.Truth.{same_of, exact}
use Rattle.field.proofs.Tests.{here, later, no_more}
use Rattle.block.specs.Read.{number_of, Sound}
use Rattle.block.specs.Part.{block_at}
use Rattle.block.specs.Fault.{faults}
use Rattle.block.proofs.File.{block_next}

module _ (b m : ℕ) (l : List ℕ) where
  pub number_wrong : number_of (take 512 l) ≢ b → Tests (faults b (suc m) l) (Err Refusal.BlockNumber)
  unfolding faults
  number_wrong h = here _ _ Refusal.BlockNumber h

  pub checks_wrong : number_of (take 512 l) ≡ b → ¬ Sound (take 512 l) → Tests (faults b (suc m) l) (Err Refusal.Check)
  unfolding faults
  checks_wrong n h = later _ _ (Err Refusal.Check) (exact n) (here _ _ Refusal.Check h)

  -- a block without fault leaves the answer to the blocks after it
  pub passed : number_of (take 512 l) ≡ b → Sound (take 512 l) → (t : Result Unit Refusal) → Tests (faults (suc b) m (drop 512 l)) t → Tests (faults b (suc m) l) t
  unfolding faults
  passed n s t r = later _ _ t (exact n) (later _ _ t (λ e. e s) r)

abbrev pub Source : Type 0
Source = Enumerate (ChunksExact ℕ)

abbrev rest_of : Source → List ℕ
rest_of s = chunks_exact_rest (enumerate_source s)

abbrev source_steps : Source → Option (ℕ × Bor (List ℕ)) → Source → Type 0
source_steps = enumerate_steps chunks_exact_steps

-- of count blocks, those that `chunks_exact` and `enumerate` have not given yet
pub record Scan (count : ℕ) (s : Source) : Type 0 where
  pub size : chunks_exact_size (enumerate_source s) ≡ 512
  pub long : length (rest_of s) ≡ 512 * (count - enumerate_count s)

-- their faults
abbrev pub faults_left : ℕ → ℕ → Source → Order
faults_left first count s = faults (first + enumerate_count s) (count - enumerate_count s) (rest_of s)

module _ (first count : ℕ) (s t : Source) (c : Scan count s) (i : ℕ) (block : Bor (List ℕ)) (step : source_steps s (Some (i, block)) t) where
  long : length block.now ≡ 512
  long = step.0.1.1 ∙ c.size

  cut : rest_of s ≡ block.now ++ rest_of t
  cut = step.0.1.0

  this : take 512 (rest_of s) ≡ block.now
  this = ap (take 512) cut ∙ take_at block.now (rest_of t) 512 long

  others : drop 512 (rest_of s) ≡ rest_of t
  others = ap (drop 512) cut ∙ drop_at block.now (rest_of t) 512 long

  left : count - enumerate_count s ≡ suc (count - (enumerate_count s + 1))
  left = omega (arith, c.long, ap length cut, length-append block.now (rest_of t), long)

  pub scan_next : Scan count t
  scan_next = record {
    size = step.0.0 ∙ c.size;
    long = omega (arith, c.long, ap length cut, length-append block.now (rest_of t), long, step.2);
  }

  pub number_wrong_at : number_of block.now ≢ first + i → Tests (faults_left first count s) (Err Refusal.BlockNumber)
  number_wrong_at n = rw left (number_wrong (first + enumerate_count s) (count - (enumerate_count s + 1)) (rest_of s) (rw (this, ← step.1) n))

  pub checks_wrong_at : number_of block.now ≡ first + i → ¬ Sound block.now → Tests (faults_left first count s) (Err Refusal.Check)
  checks_wrong_at n h =
      rw left (checks_wrong (first + enumerate_count s) (count - (enumerate_count s + 1)) (rest_of s) (rw (this, ← step.1) n) (rw this h))

  pub passed_at : number_of block.now ≡ first + i → Sound block.now → (r : Result Unit Refusal) → Tests (faults_left first count t) r
      → Tests (faults_left first count s) r
  passed_at n h r u =
      let f : first + (enumerate_count s + 1) ≡ suc (first + enumerate_count s) = omega arith in
      rw left (passed (first + enumerate_count s) (count - (enumerate_count s + 1)) (rest_of s) (rw (this, ← step.1) n) (rw this h) r
      (rw (others, ← f, ← step.2) u))

-- none is left where no block comes
pub none_left : (first count : ℕ) (s t : Source) → Scan count s → source_steps s None t → Tests (faults_left first count s) (Ok tt)
unfolding faults
none_left first count s t c step =
    let e : count - enumerate_count s ≡ 0 = omega (arith, c.long, c.size, step.0.1.0) in
    rw e (no_more tt)

sound_stable : (l : List ℕ) → ¬ (¬ Sound l) → Sound l
sound_stable l h = record {
  a_right = same_of _ _ (λ e. h (λ s. e s.a_right));
  b_right = same_of _ _ (λ e. h (λ s. e s.b_right));
}

pub no_faults : (b m : ℕ) (l : List ℕ) → NoTest (faults b m l) → (j : ℕ) → j < m
    → (number_of (block_at l j) ≡ b + j) × Sound (block_at l j)
unfolding faults NoTest block_at
no_faults b zero l h j i = absurd (omega arith)
no_faults b (suc m) l h zero i = rw add-zero (same_of _ _ h.0, sound_stable _ h.1.0)
no_faults b (suc m) l h (suc j) i =
    let e : suc b + j ≡ b + suc j = omega arith in
    rw (← e, ← block_next l j) (no_faults (suc b) m (drop 512 l) h.1.1 j (omega arith))

pub faultless : (b m : ℕ) (l : List ℕ) → ((j : ℕ) → j < m → (number_of (block_at l j) ≡ b + j) × Sound (block_at l j))
    → NoTest (faults b m l)
unfolding faults NoTest block_at
faultless b zero l h = tt
faultless b (suc m) l h =
    let first = h 0 (omega arith) in (
      exact (first.0 ∙ add-zero b),
      (
        λ e. e first.1,
        faultless (suc b) m (drop 512 l)
            (λ j i. let e : suc b + j ≡ b + suc j = omega arith in rw (block_next l j, e) (h (suc j) (omega arith))),
      ),
    )
