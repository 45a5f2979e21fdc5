use Rattle.mv_blif.proofs.Walks.{IsAt}
use Rattle.mv_blif.proofs.reader.check_lines.Given as goal

abbrev pub invariant-loop-at : goal.invariant-loop-at
invariant-loop-at l = IsAt l.lines l.at l.known
