use Rattle.std.proofs.Common.{take}
use Rattle.mv_plans.specs.Expanding.{AreSameLines}
use Rattle.mv_plans.proofs.expand.set_of.Given as goal

abbrev pub invariant-loop-line : goal.invariant-loop-line
invariant-loop-line l = AreSameLines l.set.keys (take l.line-index l.lines)
