use Rattle.std.proofs.Common.{drop}
use Rattle.mv_blif.proofs.Gathered.{IsRead}
use Rattle.mv_blif.proofs.contents.read_contents.Given as goal

abbrev pub invariant-loop-at : goal.invariant-loop-at
invariant-loop-at l = IsRead l.lines (drop l.at l.lines) l.contents
