use Rattle.std.proofs.Common.{take}
use Rattle.std.specs.Prelude.{slice_index}
use Rattle.mv_solve.proofs.Firsts.{IsFirstGiven}
use Rattle.mv_solve.proofs.first.first_allowed.Given as goal

abbrev pub invariant-loop-line : goal.invariant-loop-line
invariant-loop-line l = IsFirstGiven (slice_index l.values) (take l.line-index l.line-items) l.start l.end l.first l.some_match
