use Rattle.std.proofs.Common.{◌≡◌, map, take}
use Rattle.mv_resets.specs.Resets.{reset_name}
use Rattle.mv_resets.proofs.resets.reset_names.Given as goal

abbrev pub invariant-loop-latch : goal.invariant-loop-latch
invariant-loop-latch l = l.names ≡ map reset_name (take l.latch-index l.latches)
