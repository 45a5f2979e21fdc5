use Rattle.std.proofs.Common.{length}
use Rattle.mv_parse.proofs.Walks.{IsAt}
use Rattle.mv_parse.proofs.reader.read_lines.Given as goal

abbrev pub invariant-loop-line : goal.invariant-loop-line
invariant-loop-line l = IsAt l.fn.lines.items l.body (length l.yielded) l.known
