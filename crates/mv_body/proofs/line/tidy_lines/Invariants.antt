use Rattle.std.proofs.Common.{take}
use Rattle.mv_body.proofs.Lines.{AreTaken}
use Rattle.mv_body.proofs.line.tidy_lines.Given as goal

abbrev pub invariant-loop-line : goal.invariant-loop-line
invariant-loop-line l = AreTaken l.net.nets l.values (take l.line-index l.lines) l.distinct.keys
