-- The sum of the type words is σ, once there is an entry; at the order σ the least row is the approximant.
use mathlib.Core.Path.{◌≡◌, refl, ap, sym, ◌∙◌}
use mathlib.Core.List.{List}
use Prim.Native.Nat.{ℕ, zero, suc, ◌+◌, ◌*◌, ◌-◌, ◌≤◌, ◌<◌}
use native.Mathlib.Omega.{arith}
use lib.ListN.{length, get_or, take}
use native.Mathlib.Numerals.{add-one}
use Rattle.std.specs.List.{sum_by}
use Rattle.std.proofs.lemmas.List.{take_all}
use Rattle.std.proofs.lemmas.List.Sums.{sum_by_more}
use Rattle.words.specs.Some.{Some}
use Rattle.sizes.specs.Entry.{EntryOutside}
use Rattle.sizes.proofs.Entry.{entries_inside}
use lib.IntN.{ℤ, pos, nat_abs, ◌+ℤ◌, ◌-ℤ◌, +ℤ-neg_ℤ_cancel}
use Rattle.field.specs.Answer.{Answer}
use Rattle.relation.specs.Sum.{sum_to}
use Rattle.relation.specs.Sigma.{sumℤ, sigma_of}
use Rattle.sizes.specs.Entry.{type_of}
use Rattle.engine.specs.Sigma.{order_of}
use Rattle.engine.specs.Basis.{BasisAnswered}
use Rattle.engine.specs.Approximant.{Approximated}

-- (d_1 + 1) + .. + (d_n + 1), of the words
abbrev pub word_sum : ℕ → List ℕ → ℕ
word_sum n d = sum_to n (λ i. get_or d i 0 + 1)

-- the words' sum, as the code forms it
sum_of_words : (n : ℕ) (d : List ℕ) → n ≤ length d → sum_by (λ (x : ℕ). x + 1) (take n d) ≡ word_sum n d
unfolding sum_to
sum_of_words zero d h = refl
sum_of_words (suc n) d h =
    ap (λ m. sum_by (λ (x : ℕ). x + 1) (take m d)) (sym (add-one n)) ∙ sum_by_more (λ (x : ℕ). x + 1) d n 0 (omega arith)
    ∙ ap (λ (s : ℕ). s + (get_or d n 0 + 1)) (sum_of_words n d (omega arith))

pub all_words : (d : List ℕ) → sum_by (λ (x : ℕ). x + 1) d ≡ word_sum (length d) d
all_words d = ap (sum_by (λ (x : ℕ). x + 1)) (sym (take_all (length d) d (omega arith))) ∙ sum_of_words (length d) d (omega arith)

-- entries that are admitted have a small sum
pub word_sum_small : (n : ℕ) (d : List ℕ) → ¬ (Some EntryOutside d) → word_sum n d ≤ 256 * n
unfolding sum_to
word_sum_small zero d none = omega arith
word_sum_small (suc n) d none = omega (arith, word_sum_small n d none, entries_inside d none n)

entries_sum : (n : ℕ) (d : List ℕ) → sumℤ n (λ i. type_of d i +ℤ pos 1) ≡ pos (word_sum n d)
unfolding sumℤ sum_to
entries_sum zero d = refl
entries_sum (suc n) d = ap (λ (z : ℤ). z +ℤ pos (get_or d n 0 + 1)) (entries_sum n d)

pub at_least_one : (n : ℕ) (d : List ℕ) → 0 < n → 1 ≤ word_sum n d
unfolding sum_to
at_least_one zero d h = absurd (omega arith)
at_least_one (suc n) d h = omega arith

words_sigma : (n : ℕ) (d : List ℕ) → 0 < n → pos (word_sum n d - 1) ≡ sigma_of n (type_of d)
unfolding sigma_of
words_sigma n d h =
    let S : ℕ = word_sum n d in
    let q : S - 1 + 1 ≡ S = omega (arith, at_least_one n d h) in
    sym (+ℤ-neg_ℤ_cancel (pos (S - 1)) (pos 1)) ∙ ap (λ (z : ℤ). z -ℤ pos 1) (ap pos q ∙ sym (entries_sum n d))

pub order_of_words : (n : ℕ) (d : List ℕ) → 0 < n → word_sum n d - 1 ≡ order_of n d
unfolding order_of
order_of_words n d h = ap nat_abs (words_sigma n d h)

pub order_is_sigma : (n : ℕ) (d : List ℕ) → 0 < n → pos (order_of n d) ≡ sigma_of n (type_of d)
order_is_sigma n d h = ap pos (sym (order_of_words n d h)) ∙ words_sigma n d h

pub approximated_of : {p n : ℕ} {d F xs : List ℕ} {said : Answer} → 0 < n → BasisAnswered p n (order_of n d) d F xs said → Approximated p n (order_of n d) d F xs said
approximated_of {n} {d} h a = record {
  answered = a;
  approximant = record { order = order_is_sigma n d h; basis = a.found.minimal; reduced = a.found.reduced; least = a.found.least_row };
}
