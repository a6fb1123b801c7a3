-- Comparing shifted degrees is comparing degrees with their offsets added.
use mathlib.Core.Path.{◌≡◌, refl, ap, sym, ◌∙◌}
use mathlib.Core.List.{List}
use Prim.Native.Nat.{ℕ, zero, suc, ◌+◌, ◌≤◌, ◌<◌}
use native.Mathlib.Decide.{dec_lt}
use native.Mathlib.Omega.{arith}
use lib.Dec.{ltb, leb-suc-suc}
use lib.IntN.{ℤ, pos, negsuc, suc_ℤ, ◌+ℤ◌, +ℤ_idr, +ℤ-suc_ℤ}
use lib.ListN.{get_or}
use lib.Signed.{lt_z}
use Rattle.std.proofs.Common.{Bool, true, false, cond, is_lt, int_cmp, Less, Equal, Greater}
use borrow.Author.Tests.{lt-ltb, le-ltb}
use Rattle.sizes.specs.Entry.{type_of}
use Rattle.sizes.proofs.Entry.{above_outside}
use Rattle.relation.specs.ShiftedDegree.{shift}
use Rattle.relation.specs.Weight.{less}
use Rattle.relation.proofs.Shift.{Offset, lifted}
use Rattle.step.specs.Offset.{offset_of, TypeWords}

lower : (a b : Bool) → is_lt (cond a Less (cond b Greater Equal)) ≡ a
lower true b = refl
lower false true = refl
lower false false = refl

-- a comparison that says less is a test
pub less_is_below : (x y : ℤ) → is_lt (int_cmp x y) ≡ lt_z x y
less_is_below x y = lower (lt_z x y) (lt_z y x)

lt_z_suc : (x y : ℤ) → lt_z (suc_ℤ x) (suc_ℤ y) ≡ lt_z x y
lt_z_suc (pos a) (pos b) = leb-suc-suc (suc a) b
lt_z_suc (pos a) (negsuc zero) = le-ltb (suc a) 0 (omega arith)
lt_z_suc (pos a) (negsuc (suc b)) = refl
lt_z_suc (negsuc zero) (pos b) = lt-ltb 0 (suc b) (omega arith)
lt_z_suc (negsuc (suc a)) (pos b) = refl
lt_z_suc (negsuc zero) (negsuc zero) = refl
lt_z_suc (negsuc zero) (negsuc (suc b)) = sym (le-ltb (suc b) 0 (omega arith))
lt_z_suc (negsuc (suc a)) (negsuc zero) = sym (lt-ltb 0 (suc a) (omega arith))
lt_z_suc (negsuc (suc a)) (negsuc (suc b)) = sym (leb-suc-suc (suc b) a)

lt_z_add : (x y : ℤ) (c : ℕ) → lt_z (x +ℤ pos c) (y +ℤ pos c) ≡ lt_z x y
lt_z_add x y zero = rw (+ℤ_idr x, +ℤ_idr y)
lt_z_add x y (suc c) = rw (+ℤ-suc_ℤ x (pos c), +ℤ-suc_ℤ y (pos c)) (lt_z_suc (x +ℤ pos c) (y +ℤ pos c) ∙ lt_z_add x y c)

module _ {n : ℕ} {d : List ℕ} (w : TypeWords n d) where
  pub entry_small : (i : ℕ) → i < n → get_or d i 0 ≤ 255
  entry_small i hi = elim (dec_lt 255 (get_or d i 0)) [ yes h ↦ absurd (w.inside i hi (above_outside (get_or d i 0) h)) | no h ↦ omega arith ]

  pub type_offset : Offset n (type_of d) 255 (offset_of d)
  unfolding offset_of less
  type_offset = record { at = λ i hi. ap pos (omega (arith, entry_small i hi)) }

  pub below_offset : (i e j k : ℕ) → i < n → j < n → lt_z (shift (type_of d) i e) (shift (type_of d) j k) ≡ ltb (e + offset_of d i) (k + offset_of d j)
  below_offset i e j k hi hj =
      sym (lt_z_add (shift (type_of d) i e) (shift (type_of d) j k) 255)
      ∙ ap (λ (x : ℤ). lt_z x (shift (type_of d) j k +ℤ pos 255)) (lifted type_offset i e hi)
      ∙ ap (λ (y : ℤ). lt_z (pos (e + offset_of d i)) y) (lifted type_offset j k hj)
