use Rattle.std.proofs.Common.{take}
use Rattle.mv_cycles.specs.Cycles.{NoneTurns}
use Rattle.mv_cycles.proofs.cycle.first_turning.Given as goal

abbrev pub invariant-loop-place : goal.invariant-loop-place
invariant-loop-place l = NoneTurns l.columns (take l.place l.order)
