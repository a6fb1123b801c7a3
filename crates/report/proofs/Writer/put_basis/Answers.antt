-- `put_basis` meets its contract: its pieces are appended one after the other.
use native.Mathlib.Omega.{arith}
use Rattle.report.specs.Text.{basis_text}
use Rattle.report.proofs.Appended.{pieces}
use Rattle.report.proofs.Writer.put_basis.Goals as goal

pub put_heading-requires : goal.put_heading-requires
unfolding basis_text
put_heading-requires c = search pieces

pub put_rows-requires : goal.put_rows-requires
unfolding basis_text
put_rows-requires c = search (pieces, arith)

pub put_numbered-requires : goal.put_numbered-requires
unfolding basis_text
put_numbered-requires c =
    let rows = rw c.requires.3 at c.put_rows.ensures in
    search pieces

pub returns : goal.returns
unfolding basis_text
returns c =
    let rows = rw c.requires.3 at c.put_rows.ensures in
    search pieces
