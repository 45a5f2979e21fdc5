use Rattle.std.proofs.Common.{◌≡◌, take}
use Rattle.mv_design.proofs.copies.copy_latches.Given as goal

abbrev pub invariant-loop-latch : goal.invariant-loop-latch
invariant-loop-latch l = l.copied ≡ take l.latch-index l.latch-items
