-- The job of a text is admitted: the tests of the numbers are document 01's sizes.
use mathlib.Core.Path.{◌≡◌, refl, ap, sym, ◌∙◌}
use mathlib.Core.Bool.{Bool, true, false}
use mathlib.Core.List.{List, [], ◌∷◌}
use Prim.Native.Nat.{ℕ, zero, suc, ◌<◌}
use native.Mathlib.Omega.{arith}
use lib.ListN.{length, get_or}
use borrow.Author.Tests.{ltb-true}
use Rattle.field.specs.Modulus.{Modulus}
use Rattle.field.proofs.ModulusTest.{modulus_test}
use Rattle.jobfile.specs.Job.{Admitted, job_of}
use Rattle.std.specs.Prelude.{Result, Ok, Err}
use Rattle.tokens.specs.declared.NumeralError.{NumeralError}
use Rattle.jobtext.specs.declared.Slip.{Slip}
use Rattle.tokens.specs.Tokens.{Tokens, text_end, word}
use Rattle.tokens.specs.Number.{numeral_of}
use Rattle.field.specs.ModulusTest.{is_modulus}
use Rattle.sizes.specs.Entry.{is_entry}
use Rattle.sizes.proofs.Entry.{entry_test}
use Rattle.jobtext.specs.Job.{JobText, job, wrong, tested, one_number, many_numbers, at_end, is_count, is_below, from_series, from_type, from_order, from_count, job_of_text}
use Rattle.jobtext.proofs.Reading.{one_is, one_not, test_passed, test_failed, count_most}

-- a job that is admitted, or none
unfoldable pub Right : JobText → Type 0
Right (job p n s d f) = Admitted (job_of p n s d f)
Right (wrong slip line) = Unit

-- every number of a list passes the test
abbrev Pass : (ℕ → Bool) → List ℕ → Type 0
Pass ok l = (i : ℕ) → i < length l → ok (get_or l i 0) ≡ true

one_right : (ok : ℕ → Bool) (slip : Slip) (go : ℕ → Tokens → JobText) (t : Tokens)
    → ((v : ℕ) (u : Tokens) → ok v ≡ true → Right (go v u)) → Right (one_number ok slip go t)
unfolding Right one_number
one_right ok slip go (text_end l) h = tt
one_right ok slip go (word l w t) h = by (numeral_of w) refl
  where
    passed : (v : ℕ) (b : Bool) → ok v ≡ b → Right (tested ok slip go v l t)
    passed v true e = rw (test_passed ok slip go v l t e) (h v t e)
    passed v false e = rw (test_failed ok slip go v l t e) tt

    by : (r : Result ℕ NumeralError) → r ≡ numeral_of w → Right (one_number ok slip go (word l w t))
    by (Ok v) e = rw (one_is ok slip go l w t (word l w t) v refl e) (passed v (ok v) refl)
    by (Err q) e = rw (one_not ok slip go l w t (word l w t) q refl e) tt

pass_more : (ok : ℕ → Bool) (v : ℕ) (l : List ℕ) → ok v ≡ true → Pass ok l → Pass ok (v ∷ l)
pass_more ok v l e h zero b = e
pass_more ok v l e h (suc i) b = h i (omega arith)

many_right : (ok : ℕ → Bool) (slip : Slip) (k : ℕ) (go : List ℕ → Tokens → JobText) (t : Tokens)
    → ((l : List ℕ) (u : Tokens) → length l ≡ k → Pass ok l → Right (go l u)) → Right (many_numbers ok slip k go t)
unfolding many_numbers
many_right ok slip zero go t h = h [] t refl (λ i b. absurd (omega arith))
many_right ok slip (suc k) go t h =
    one_right ok slip (λ v. many_numbers ok slip k (λ l. go (v ∷ l))) t λ v u e.
    many_right ok slip k (λ l. go (v ∷ l)) u (λ l w full pass. h (v ∷ l) w (ap suc full) (pass_more ok v l e pass))

ended_right : (j : JobText) (t : Tokens) → Right j → Right (at_end j t)
unfolding Right at_end
ended_right j (text_end l) h = h
ended_right j (word l w t) h = tt

-- past its end a list gives zero, which is is_below every limit but zero
all_below : (limit : ℕ) → 0 < limit → (l : List ℕ) → Pass (is_below limit) l → (i : ℕ) → get_or l i 0 < limit
unfolding is_below
all_below limit h [] pass i = h
all_below limit h (v ∷ l) pass zero = ltb-true _ _ (pass 0 (omega arith))
all_below limit h (v ∷ l) pass (suc i) = all_below limit h l (λ k b. pass (suc k) (omega arith)) i

pub text_right : (text : List ℕ) → Right (job_of_text text)
unfolding Right job_of_text from_count from_order from_type from_series is_below
text_right text =
    one_right is_modulus Slip.Modulus from_count _ λ p t ep.
    one_right is_count Slip.Count (from_order p) t λ n u en.
    one_right (is_below 256) Slip.Order (from_type p n) u λ s v es.
    many_right is_entry Slip.Entry n (from_series p n s) v λ d w fd pd.
    many_right (is_below p) Slip.Coefficient _ (λ f. at_end (job p n s d f)) w λ f x ff pf.
    let m : Modulus p = (modulus_test p).0 ep in
    ended_right (job p n s d f) x record {
      modulus = m;
      n_from = (count_most n en).0;
      n_to = (count_most n en).1;
      s_to = omega (arith, ltb-true s 256 es);
      type_length = fd;
      series_length = ff;
      entries = λ i. omega (arith, all_below 256 (omega arith) d (λ k b. sym (entry_test (get_or d k 0)) ∙ pd k b) i);
      coefficients = all_below p (omega (arith, m.prime.above_one)) f pf;
    }
