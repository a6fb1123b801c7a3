-- `skip` meets its contract: the tokens from here on are those from the start.
use mathlib.Core.Path.{sym, ◌∙◌}
use native.Mathlib.Omega.{arith}
use Rattle.tokens.proofs.Scan.{rest_newline, rest_blank, rest_hash}
use Rattle.tokens.proofs.skip.Goals as goal

pub loop-here-preserved-in-Newline : goal.loop-here-preserved-in-Newline
loop-here-preserved-in-Newline c =
    let i = c.loop-here in
    record {
      behind = omega arith;
      inside = record { inside = omega arith; lines = omega arith };
      same_rest = i.invariant.same_rest ∙ rest_newline _ i.here.at (omega arith) i.here.line (sym c.class_of.ensures ∙ c.in-Newline.is);
    }

pub loop-here-preserved-in-Blank : goal.loop-here-preserved-in-Blank
loop-here-preserved-in-Blank c =
    let i = c.loop-here in
    record {
      behind = omega arith;
      inside = record { inside = omega arith; lines = omega arith };
      same_rest = i.invariant.same_rest ∙ rest_blank _ i.here.at (omega arith) i.here.line (sym c.class_of.ensures ∙ c.in-Blank.is);
    }

pub loop-here-preserved : goal.loop-here-preserved
loop-here-preserved c =
    let i = c.loop-here in
    let e = c.line_end.ensures in
    let hash = sym c.class_of.ensures ∙ c.in-Hash.is in
    record {
      behind = omega arith;
      inside = record { inside = e.1; lines = omega arith };
      same_rest = i.invariant.same_rest ∙ rest_hash _ i.here.at (omega arith) i.here.line hash ∙ e.2 i.here.line;
    }
