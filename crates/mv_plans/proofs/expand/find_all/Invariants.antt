use Rattle.std.proofs.Common.{take}
use Rattle.mv_plans.specs.Expanding.{expanded, HasFound}
use Rattle.mv_plans.proofs.expand.find_all.Given as goal

abbrev pub invariant-loop-line : goal.invariant-loop-line
invariant-loop-line l = HasFound l.wanted.keys l.fn.found.keys (expanded l.d.0 l.inner.lines (take l.line-index l.lines)) l.found.keys
