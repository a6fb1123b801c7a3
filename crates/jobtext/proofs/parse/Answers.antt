-- `parse` meets its contract: each part goes on with the definition where the one before stopped.
use mathlib.Core.Path.{◌≡◌, ◌∙◌}
use Prim.Native.Nat.{◌≤◌}
use native.Mathlib.Omega.{arith}
use borrow.Author.Tests.{ltb-true}
use Rattle.field.specs.ModulusTest.{is_modulus}
use Rattle.std.proofs.lemmas.Result.{err_from_is_err_and}
use Rattle.tokens.specs.Tokens.{Tokens, rest, tokens}
use Rattle.jobtext.specs.declared.Reader.{Reader}
use Rattle.jobtext.specs.declared.Slip.{Slip}
use Rattle.jobtext.specs.Reading.{ahead}
use Rattle.jobtext.specs.Job.{is_count, is_below, job_of_text, from_count, from_order, from_type}
use Rattle.jobtext.proofs.Reading.{passed, failed, follows_wrong, count_most}
use Rattle.jobtext.proofs.parse.Goals as goal
use Rattle.jobtext.proofs.parse.Goals.{In_ok-p, In_ok-n, In_ok-s}

-- the tokens that are still to be read
abbrev left : Reader → Tokens
left r = ahead r.text.now r.here

read_p : (c : In_ok-p) → job_of_text c.args.text.now ≡ from_count c.in_ok-p.p (left c.modulus.new.self)
unfolding job_of_text tokens rest
read_p c = (passed is_modulus Slip.Modulus _ _ _ c.in_ok-p.ensures).1 from_count

read_n : (c : In_ok-n) → from_count c.in_ok-p.p (left c.modulus.new.self) ≡ from_order c.in_ok-p.p c.in_ok-n.n (left c.count.new.self)
unfolding from_count
read_n c = (passed is_count Slip.Count _ _ _ c.in_ok-n.ensures).1 (from_order c.in_ok-p.p)

read_s : (c : In_ok-s) → from_order c.in_ok-p.p c.in_ok-n.n (left c.count.new.self) ≡ from_type c.in_ok-p.p c.in_ok-n.n c.in_ok-s.s (left c.below.new.self)
unfolding from_order
read_s c = (passed (is_below 256) Slip.Order _ _ _ c.in_ok-s.ensures).1 (from_type c.in_ok-p.p c.in_ok-n.n)

small : (c : In_ok-s) → (c.in_ok-n.n ≤ 8) × (c.in_ok-s.s ≤ 255)
unfolding is_below
small c =
    let below = ltb-true c.in_ok-s.s 256 (passed (is_below 256) Slip.Order _ _ _ c.in_ok-s.ensures).0 in
    ((count_most c.in_ok-n.n (passed is_count Slip.Count _ _ _ c.in_ok-n.ensures).0).1, omega arith)

pub returns-in_err-p : goal.returns-in_err-p
unfolding job_of_text tokens rest
returns-in_err-p c =
    let p = err_from_is_err_and c.from_residual.result c.from_residual.ensures.1 in
    rw (p.1, p.2) (follows_wrong _ _ _ (failed is_modulus Slip.Modulus _ _ _ c.in_err-p.ensures from_count))

pub returns-in_err-n : goal.returns-in_err-n
unfolding from_count
returns-in_err-n c =
    let at = goal.at.returns-in_err-n c in
    let p = err_from_is_err_and c.from_residual-in_err-n.result c.from_residual-in_err-n.ensures.1 in
    rw (p.1, p.2) (follows_wrong _ _ _ (read_p at.In_ok-p ∙ failed is_count Slip.Count _ _ _ c.in_err-n.ensures (from_order c.in_ok-p.p)))

pub returns-in_err-s : goal.returns-in_err-s
unfolding from_order
returns-in_err-s c =
    let at = goal.at.returns-in_err-s c in
    let p = err_from_is_err_and c.from_residual-in_err-s.result c.from_residual-in_err-s.ensures.1 in
    rw (p.1, p.2) (follows_wrong _ _ _ (read_p at.In_ok-p ∙ read_n at.In_ok-n ∙ failed (is_below 256) Slip.Order _ _ _ c.in_err-s.ensures (from_type c.in_ok-p.p c.in_ok-n.n)))

pub type_and_series-requires : goal.type_and_series-requires
type_and_series-requires c =
    let fits = small (goal.at.type_and_series-requires c).In_ok-s in
    (fits.0, fits.1)

pub returns : goal.returns
returns c =
    let at = goal.at.returns c in
    rw (read_p at.In_ok-p ∙ read_n at.In_ok-n ∙ read_s at.In_ok-s) c.type_and_series.ensures
