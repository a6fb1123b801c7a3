-- `read_list` meets its contract: the pieces so far are written.
use mathlib.Core.Path.{◌≡◌}
use Prim.Native.Nat.{ℕ, ◌<◌}
use native.Mathlib.Omega.{arith}
use lib.Dec.{eqb}
use lib.ListN.{length, get_or}
use borrow.Author.Tests.{tests}
use Rattle.std.proofs.Common.{rules}
use Rattle.std.proofs.lemmas.Iterator.Consumers.{YieldsList-turn, YieldsList-end}
use Rattle.std.proofs.lemmas.Iterator.Splits.{YieldsList-from_slice_split}
use Rattle.std.proofs.lemmas.List.{length_push}
use Rattle.std.proofs.lemmas.Result.{err_from_is_err_and}
use Rattle.request.specs.Cut.{pieces}
use Rattle.request.proofs.Lists.{reading_none, reading_on, reading_stop, reading_wrong, reading_end}
use Rattle.request.proofs.read_list.Goals as goal
use Rattle.request.proofs.read_list.Goals.{In-Some}

pub loop-part-init : goal.loop-part-init
loop-part-init c = reading_none _ _

-- the part is the next piece
turn : (c : In-Some) → (length c.loop-part.yielded < length (pieces c.args.word.now)) × (c.in-Some.part.now ≡ get_or (pieces c.args.word.now) (length c.loop-part.yielded) c.in-Some.part.now)
unfolding pieces
turn c =
    let s = c.split-part-items.ensures in
    let given = YieldsList-from_slice_split _ (λ (b : ℕ). eqb b 44) c.args.word.now (cc) (cc) (cc) (λ x b q k. search (rules, tests)) in
    YieldsList-turn given c.loop-part.yielded _ c.loop-part.yielded_by _ _ c.in-Some.part c.in-Some.is c.next.ensures.steps

pub returns-in_err-piece : goal.returns-in_err-piece
returns-in_err-piece c =
    let t = turn (goal.at.returns-in_err-piece c).In-Some in
    let p = err_from_is_err_and c.from_residual.result c.from_residual.ensures.1 in
    rw (p.1, p.2) (reading_stop c.loop-part.invariant t.0 t.1 c.in_err-piece.ensures)

pub returns-in_err-k : goal.returns-in_err-k
returns-in_err-k c =
    let t = turn (goal.at.returns-in_err-k c).In-Some in
    let p = err_from_is_err_and c.from_residual-in_err-k.result c.from_residual-in_err-k.ensures.1 in
    rw (p.1, p.2) (reading_wrong c.loop-part.invariant t.0 t.1 c.in_ok-piece.ensures c.write_piece.ensures (omega arith) c.in_err-k.was)

pub overflow_add-used : goal.overflow_add-used
overflow_add-used c =
    let t = turn (goal.at.overflow_add-used c).In-Some in
    let on = reading_on c.loop-part.invariant t.0 t.1 c.in_ok-piece.ensures c.write_piece.ensures (omega arith) c.in_ok-k.was in
    omega (arith, on.filled.fits)

pub loop-part-preserved : goal.loop-part-preserved
loop-part-preserved c =
    let t = turn (goal.at.loop-part-preserved c).In-Some in
    rw length_push (reading_on c.loop-part.invariant t.0 t.1 c.in_ok-piece.ensures c.write_piece.ensures (omega arith) c.in_ok-k.was)

pub returns : goal.returns
unfolding pieces
returns c =
    let s = c.split-part-items.ensures in
    let given = YieldsList-from_slice_split _ (λ (b : ℕ). eqb b 44) c.args.word.now (cc) (cc) (cc) (λ x b q k. search (rules, tests)) in
    reading_end c.loop-part.invariant (YieldsList-end given c.loop-part.yielded _ c.loop-part.yielded_by _ _ c.in-None.is c.next.ensures.steps).1
