use Rattle.std.proofs.Common.{◌-◌, ◌^◌}
use Rattle.mv_cycles.specs.Walking.{IsWalk}
use Rattle.mv_cycles.proofs.walk.Walk.go.Given as goal

abbrev pub invariant-loop-place : goal.invariant-loop-place
invariant-loop-place l = IsWalk l.columns l.net.0 l.self l.place

abbrev pub decreases-loop-place : goal.decreases-loop-place
decreases-loop-place l = 2 ^ 64 - l.place
