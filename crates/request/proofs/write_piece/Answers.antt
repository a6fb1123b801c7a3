-- `write_piece` meets its contract, case by case.
use lib.ListN.{replicate, length-replicate}
use Rattle.std.proofs.Common.{rules}
use Rattle.request.specs.Drawn.{start, drawn}
use Rattle.request.proofs.Drawing.{length_drawn}
use Rattle.request.proofs.Placed.{left_placed, left_long, written_same, written_drawn, left_unmoduled}
use Rattle.request.proofs.write_piece.Goals as goal

pub returns-then-k-out : goal.returns-then-k-out
returns-then-k-out c =
    let told = c.in-Same in
    left_long _ _ (λ n. replicate n told.value) told.count (length-replicate told.count told.value) (written_same _ _ told.value told.count told.is) c.if-k-out.true

pub returns-then-modulus-eq0 : goal.returns-then-modulus-eq0
returns-then-modulus-eq0 c =
    let told = c.in-Drawn in
    left_unmoduled _ _ told.seed told.modulus told.count told.is c.if-modulus-eq0.true

pub returns-then-k-out-2 : goal.returns-then-k-out-2
returns-then-k-out-2 c =
    let told = c.in-Drawn in
    let x = told.seed in
    let m = told.modulus in
    let k = told.count in
    left_long _ _ (λ n. drawn m n (start x)) k (length_drawn m k (start x)) (written_drawn _ _ x m k told.is c.if-modulus-eq0.false) c.if-k-out-2.true

pub returns-else-k-out : goal.returns-else-k-out
returns-else-k-out c =
    let told = c.in-Same in
    let v = told.value in
    let k = told.count in
    left_placed _ _ (λ n. replicate n v) k (length-replicate k v) (written_same _ _ v k told.is) c.if-k-out.false _ (c.fill.ensures.after (λ y e. search rules))

pub returns-else-k-out-2 : goal.returns-else-k-out-2
returns-else-k-out-2 c =
    let told = c.in-Drawn in
    let x = told.seed in
    let m = told.modulus in
    let k = told.count in
    left_placed _ _ (λ n. drawn m n (start x)) k (length_drawn m k (start x)) (written_drawn _ _ x m k told.is c.if-modulus-eq0.false)
    c.if-k-out-2.false _ c.draw.ensures
