use Rattle.std.proofs.Common.{◌≡◌, map, take}
use Rattle.mv_flat.specs.Built.{flat_latch}
use Rattle.mv_flat.proofs.latches.flat_latches.Given as goal

abbrev pub invariant-loop-latch : goal.invariant-loop-latch
invariant-loop-latch l = l.flat ≡ map (flat_latch l.names) (take l.latch-index l.latches)
