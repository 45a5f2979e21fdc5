use Rattle.mv_rows.specs.Once.{Puts}
use Rattle.mv_rows.proofs.line_set.LineSet.put_all.Given as goal

abbrev pub invariant-loop-line : goal.invariant-loop-line
invariant-loop-line l = Puts l.yielded l.fn.self l.self
