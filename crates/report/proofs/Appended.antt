-- Appending with a writer.
use mathlib.Core.Path.{◌≡◌, refl, sym, ap, ◌∙◌}
use mathlib.Core.List.{List, ◌++◌}
use Prim.Native.Nat.{ℕ, ◌+◌, ◌≤◌, ◌<◌}
use native.Mathlib.Omega.{arith}
use lib.ListN.{length, take, drop}
use borrow.Rule.Slice.PartMut.{put_mid}
use Rattle.std.proofs.lemmas.Slice.{put_mid-paste}
use lib.Seq.{sets, sets-eq, take_all}
use Rattle.report.specs.declared.Writer.{Writer}
use Rattle.report.specs.Each.{each}
use Rattle.report.specs.Appended.{RoomFor, Appended}
use Rattle.report.proofs.Wrote.{wrote_append, room_rest, room_first, wrote_none, wrote_each, room_each}

pub wrote_part : (text x y : List ℕ) (at k : ℕ) → y ≡ text → at + length text ≤ length x → k ≡ length text → put_mid at k x y ≡ sets x at text
wrote_part text x y at k e h f =
    put_mid-paste at k x y text (length text) e (sym f) refl
    ∙ ap (λ (t : List ℕ). take at x ++ t ++ drop (at + length text) x) (take_all (length text) text (omega arith))
    ∙ sym (sets-eq text x at h)

module _ {a b : List ℕ} {x y : Writer} where
  pub both : {z : Writer} → Appended a x y → Appended b y z → Appended (a ++ b) x z
  both v w = record { wrote = wrote_append v.wrote w.wrote; same = w.same ∙ v.same }

  pub rest : Appended a x y → RoomFor (a ++ b) x → RoomFor b y
  rest v h = room_rest h v.wrote

pub first : (a b : List ℕ) (x : Writer) → RoomFor (a ++ b) x → RoomFor a x
first a b x h = room_first a b h

-- a loop that appends f k in turn k
pub none_yet : (f : ℕ → List ℕ) (x : Writer) → Appended (each f 0) x x
unfolding each
none_yet f x = record { wrote = wrote_none _ _; same = refl }

module _ (f : ℕ → List ℕ) (k : ℕ) {x y : Writer} (v : Appended (each f k) x y) where
  pub turn : {z : Writer} → Appended (f k) y z → Appended (each f (k + 1)) x z
  turn w = record { wrote = wrote_each f k v.wrote w.wrote; same = w.same ∙ v.same }

  pub turn_room : (n : ℕ) → k < n → RoomFor (each f n) x → RoomFor (f k) y
  turn_room n l h = room_each f n k l h v.wrote

-- pieces that are appended one after the other
pub ruleset pieces = (both, rest, first)
