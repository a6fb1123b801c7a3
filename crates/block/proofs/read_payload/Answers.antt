-- Below i the words are those of the payload.
use Rattle.std.proofs.Common.{length, sym, ◌∙◌, arith, ext_get_or}
use Rattle.block.proofs.Payload.{length_part, part_at}
use Rattle.block.proofs.read_payload.Goals as goal

pub returns : goal.returns
returns c =
    let l = c.loop-i in
    let args = c.args in
    let n = length args.out.now in
    ext_get_or 0 l.out _ (l.auto.out ∙ sym (length_part args.file.now args.from n))
    (λ k h. l.invariant k (omega arith) ∙ sym (part_at args.file.now args.from n k (omega arith)))
