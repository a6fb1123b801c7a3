-- Steps of the definition: a number that is taken, a test that holds or not, one number more of many.
use mathlib.Core.Path.{◌≡◌, refl, sym, ap, ◌∙◌, fun_ext}
use mathlib.Core.Bool.{Bool, true, false}
use mathlib.Core.Logic.{◌⊎◌, inl, inr}
use mathlib.Core.List.{List, [], ◌∷◌, ◌++◌, append-nil}
use Prim.Native.Nat.{ℕ, suc, ◌+◌, ◌-◌, ◌≤◌, ◌<◌}
use native.Mathlib.Decide.{dec_lt, dec_le}
use native.Mathlib.Numerals.{add-one}
use native.Mathlib.Omega.{arith}
use borrow.Author.Tests.{lt-ltb, le-ltb, le-leb, lt-leb}
use lib.ListN.{length, take, drop, set, replicate, length-set, length-replicate}
use lib.Seq.{append_snoc, take-suc-set, take_all, take_at, length-take-le}
use Rattle.std.specs.Prelude.{Result, Ok, Err, MatchResult}
use Rattle.std.specs.Result.{IsErrAnd}
use Rattle.sizes.proofs.Entry.{entry_test}
use Rattle.tokens.specs.declared.NumeralError.{NumeralError}
use Rattle.jobtext.specs.declared.Fault.{Fault}
use Rattle.jobtext.specs.declared.Slip.{Slip}
use Rattle.tokens.specs.Tokens.{Tokens, text_end, word}
use Rattle.tokens.specs.Number.{numeral_of}
use Rattle.words.specs.Lent.{over}
use Rattle.jobtext.specs.Job.{JobText, job, wrong, slip_of, tested, one_number, many_numbers, at_end, is_count, is_below, from_type, from_series}
use Rattle.jobtext.specs.Reading.{fault_at, Takes, Passes, Fills, Ends, Follows}

module _ (ok : ℕ → Bool) (slip : Slip) (go : ℕ → Tokens → JobText) where
  one_none : (l : ℕ) (t : Tokens) → t ≡ text_end l → one_number ok slip go t ≡ wrong Slip.EndsEarly l
  unfolding one_number
  one_none l t e = ap (one_number ok slip go) e

  pub one_is : (l : ℕ) (w : List ℕ) (r t : Tokens) (v : ℕ) → t ≡ word l w r → Ok v ≡ numeral_of w → one_number ok slip go t ≡ tested ok slip go v l r
  unfolding one_number
  one_is l w r t v e n = ap (one_number ok slip go) e ∙ rw (sym n, one_number)

  pub one_not : (l : ℕ) (w : List ℕ) (r t : Tokens) (q : NumeralError) → t ≡ word l w r → Err q ≡ numeral_of w → one_number ok slip go t ≡ wrong (slip_of q) l
  unfolding one_number
  one_not l w r t q e n = ap (one_number ok slip go) e ∙ rw (sym n, one_number)

  pub test_passed : (v l : ℕ) (t : Tokens) → ok v ≡ true → tested ok slip go v l t ≡ go v t
  unfolding tested
  test_passed v l t e = rw (e, tested)

  pub test_failed : (v l : ℕ) (t : Tokens) → ok v ≡ false → tested ok slip go v l t ≡ wrong slip l
  unfolding tested
  test_failed v l t e = rw (e, tested)

-- what taking a number answers
pub takes_none : (t t' : Tokens) (l l' : ℕ) → t ≡ text_end l → Takes t (Err (fault_at Slip.EndsEarly l)) l' t'
unfolding Takes
takes_none t t' l l' e = λ ok slip go. one_none ok slip go l t e

takes_is : {t t' : Tokens} {l v : ℕ} {w : List ℕ} → t ≡ word l w t' → Ok v ≡ numeral_of w → Takes t (Ok v) l t'
unfolding Takes
takes_is e n = λ ok slip go. one_is ok slip go _ _ _ _ _ e n

takes_not : {t t' : Tokens} {l : ℕ} (l' : ℕ) {w : List ℕ} {q : NumeralError} → t ≡ word l w t' → Err q ≡ numeral_of w → Takes t (Err (fault_at (slip_of q) l)) l' t'
unfolding Takes
takes_not l' e n = λ ok slip go. one_not ok slip go _ _ _ _ _ e n

-- what `map_err` makes of the number's slip
pub takes_read : {t t' : Tokens} {l : ℕ} {w : List ℕ} (x : Result ℕ NumeralError) (r : Result ℕ Fault) (Q : NumeralError → Fault → Type 0) → t ≡ word l w t' → x ≡ numeral_of w
    → MatchResult x (λ v. r ≡ Ok v) (λ e. IsErrAnd r (Q e)) → ((e : NumeralError) (f : Fault) → Q e f → f ≡ fault_at (slip_of e) l) → Takes t r l t'
unfolding Takes
takes_read (Ok v) r Q e n h q = rw h (takes_is e n)
takes_read (Err s) (Err f) Q e n h q = rw (q s f h) (takes_not 0 e n)
takes_read (Err s) (Ok v) Q e n h q = absurd h

-- and what testing it does
module _ (ok : ℕ → Bool) (slip : Slip) (t t' : Tokens) where
  pub passes : (v l : ℕ) → Takes t (Ok v) l t' → ok v ≡ true → Passes ok slip t (Ok v) t'
  unfolding Takes Passes
  passes v l h e = (e, λ go. h ok slip go ∙ test_passed ok slip go v l t' e)

  pub fails : (v l : ℕ) → Takes t (Ok v) l t' → ok v ≡ false → Passes ok slip t (Err (fault_at slip l)) t'
  unfolding Takes Passes
  fails v l h e = λ go. h ok slip go ∙ test_failed ok slip go v l t' e

  pub stops : (e : Fault) (l : ℕ) → Takes t (Err e) l t' → Passes ok slip t (Err e) t'
  unfolding Takes Passes
  stops e l h = λ go. h ok slip go

-- the number is tested, and how the definition goes on
module _ (ok : ℕ → Bool) (slip : Slip) (t t' : Tokens) where
  pub passed : (v : ℕ) → Passes ok slip t (Ok v) t' → (ok v ≡ true) × ((go : ℕ → Tokens → JobText) → one_number ok slip go t ≡ go v t')
  unfolding Passes
  passed v h = h

  pub failed : (e : Fault) → Passes ok slip t (Err e) t' → (go : ℕ → Tokens → JobText) → one_number ok slip go t ≡ wrong e.slip e.line
  unfolding Passes
  failed e h = h

-- k of m numbers are taken, and one more is or is not
module _ (ok : ℕ → Bool) (slip : Slip) (go : List ℕ → Tokens → JobText) (done : List ℕ) (m k : ℕ) (h : k < m) (t t' : Tokens) where
  next : many_numbers ok slip (m - k) (λ x. go (done ++ x)) t ≡ one_number ok slip (λ v. many_numbers ok slip (m - (k + 1)) (λ x. go (done ++ (v ∷ x)))) t
  unfolding many_numbers
  next = let e : m - k ≡ suc (m - (k + 1)) = omega arith in rw e

  pub many_wrong : (e : Fault) → Passes ok slip t (Err e) t' → many_numbers ok slip (m - k) (λ x. go (done ++ x)) t ≡ wrong e.slip e.line
  many_wrong e takes = next ∙ failed ok slip t t' e takes _

  many_turn : (v : ℕ) → Passes ok slip t (Ok v) t' → many_numbers ok slip (m - k) (λ x. go (done ++ x)) t ≡ many_numbers ok slip (m - (k + 1)) (λ x. go ((done ++ (v ∷ [])) ++ x)) t'
  many_turn v takes =
      next ∙ (passed ok slip t t' v takes).1 _
      ∙ ap (λ (g : List ℕ → Tokens → JobText). many_numbers ok slip (m - (k + 1)) g t') (fun_ext (λ x. ap go (sym (append_snoc done v x))))

-- a loop that writes the numbers to a list
module _ (ok : ℕ → Bool) (slip : Slip) (go : List ℕ → Tokens → JobText) (first : Tokens) where
  pub set_none : (l : List ℕ) → many_numbers ok slip (length l) go first ≡ many_numbers ok slip (length l - 0) (λ x. go (take 0 l ++ x)) first
  set_none l = let e : length l - 0 ≡ length l = omega arith in rw e

  pub set_turn : (l : List ℕ) (k v : ℕ) (t r : Tokens) → k < length l → Passes ok slip t (Ok v) r
      → many_numbers ok slip (length l) go first ≡ many_numbers ok slip (length l - k) (λ x. go (take k l ++ x)) t
      → many_numbers ok slip (length (set l k v)) go first ≡ many_numbers ok slip (length (set l k v) - (k + 1)) (λ x. go (take (k + 1) (set l k v) ++ x)) r
  set_turn l k v t r h takes inv =
      let q : take (k + 1) (set l k v) ≡ take k l ++ (v ∷ []) = rw (add-one k) (take-suc-set l k v h) in
      rw (length-set l k v)
      (inv ∙ many_turn ok slip go (take k l) (length l) k h t r v takes
      ∙ ap (λ (w : List ℕ). many_numbers ok slip (length l - (k + 1)) (λ x. go (w ++ x)) r) (sym q))

-- all are taken
pub many_end : (ok : ℕ → Bool) (slip : Slip) (go : List ℕ → Tokens → JobText) (l : List ℕ) (m k : ℕ) (t : Tokens) → m ≤ k → length l ≤ k
    → many_numbers ok slip (m - k) (λ x. go (take k l ++ x)) t ≡ go l t
unfolding many_numbers
many_end ok slip go l m k t h g =
    let e : m - k ≡ 0 = omega arith in
    let f : take k l ++ [] ≡ l = append-nil (take k l) ∙ take_all k l g in
    rw e (ap (λ (x : List ℕ). go x t) f)

module _ (ok : ℕ → Bool) (slip : Slip) (t t' : Tokens) (values : List ℕ) (k : ℕ) (h : k ≡ length values) where
  pub filled : (u : Unit) → Fills ok slip t values (Ok u) t' → (go : List ℕ → Tokens → JobText) → many_numbers ok slip k go t ≡ go values t'
  unfolding Fills
  filled u f go = rw h (f go)

  pub unfilled : (e : Fault) → Fills ok slip t values (Err e) t' → (go : List ℕ → Tokens → JobText) → many_numbers ok slip k go t ≡ wrong e.slip e.line
  unfolding Fills
  unfilled e f go = rw h (f go)

-- the text is over, or is not
pub ends_there : {t : Tokens} {l : ℕ} → t ≡ text_end l → Ends t (Ok record {})
unfolding Ends at_end
ends_there e = λ j. ap (at_end j) e

pub ends_not : {t r : Tokens} {l : ℕ} {w : List ℕ} → t ≡ word l w r → Ends t (Err (fault_at Slip.TooMany l))
unfolding Ends at_end
ends_not e = λ j. ap (at_end j) e

module _ (t : Tokens) (j : JobText) where
  pub ended : (u : Unit) → Ends t (Ok u) → at_end j t ≡ j
  unfolding Ends
  ended u h = h j

  pub not_ended : (e : Fault) → Ends t (Err e) → at_end j t ≡ wrong e.slip e.line
  unfolding Ends
  not_ended e h = h j

-- the answer, from the job
pub follows_wrong : {j : JobText} (e : Fault) (a c : List ℕ) → j ≡ wrong e.slip e.line → Follows j (Err e) a a c c
unfolding Follows
follows_wrong e a c q = rw q (refl, refl, refl)

pub follows_job : {j : JobText} (p n s : ℕ) (x f a b c d : List ℕ) → j ≡ job p n s x f → b ≡ over x a → d ≡ over f c
    → Follows j (Ok (record { p = p; n = n; s = s })) a b c d
unfolding Follows
follows_job p n s x f a b c d q g h = rw q (refl, g, h)

-- the k numbers in front of a longer list are written over another
pub stands : (v r x out : List ℕ) (k : ℕ) → k ≡ length v → x ≡ take k (v ++ r) → x ++ drop k out ≡ over v out
stands v r x out k h e = rw (e, take_at v r k (sym h), h)

-- a part of zeros that is lent
pub lent_zeros : (m k : ℕ) → k ≤ m → k ≡ length (take k (replicate {A = ℕ} m 0))
lent_zeros m k h = sym (length-take-le k (replicate {A = ℕ} m 0) (omega (arith, length-replicate {A = ℕ} m 0)))

-- the tests
pub count_low : (n : ℕ) → n < 1 → is_count n ≡ false
unfolding is_count
count_low n h = simp (lt-ltb n 1 h)

pub count_high : (n : ℕ) → 8 < n → is_count n ≡ false
unfolding is_count
count_high n h = simp (le-ltb n 1 (omega arith), lt-leb n 8 h)

pub count_in : (n : ℕ) → 1 ≤ n → n ≤ 8 → is_count n ≡ true
unfolding is_count
count_in n h g = simp (le-ltb n 1 h, le-leb n 8 g)

pub count_out : (n : ℕ) → (n < 1) ⊎ (8 < n) → is_count n ≡ false
count_out n (inl h) = count_low n h
count_out n (inr h) = count_high n h

pub count_most : (n : ℕ) → is_count n ≡ true → (1 ≤ n) × (n ≤ 8)
count_most n e = (
  elim (dec_lt n 1) [ yes l ↦ (let f = count_low n l in cc) | no l ↦ omega arith ],
  elim (dec_le n 8) [ yes l ↦ l | no l ↦ (let f = count_high n (omega arith) in cc) ],
)

-- the type's entries are numbers below 256
pub type_by : (p n s : ℕ) (t : Tokens) → from_type p n s t ≡ many_numbers (is_below 256) Slip.Entry n (from_series p n s) t
unfolding from_type is_below
type_by p n s t = ap (λ (ok : ℕ → Bool). many_numbers ok Slip.Entry n (from_series p n s) t) (fun_ext λ v. entry_test v)
