use Rattle.std.proofs.Common.{◌-◌, ◌^◌}
use Rattle.mv_cycles.proofs.components.Numbering.spread.Given as goal

abbrev pub decreases-loop-place : goal.decreases-loop-place
decreases-loop-place l = 2 ^ 64 - l.place
