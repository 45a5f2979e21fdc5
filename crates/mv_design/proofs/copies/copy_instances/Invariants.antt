use Rattle.std.proofs.Common.{◌≡◌, take}
use Rattle.mv_design.proofs.copies.copy_instances.Given as goal

abbrev pub invariant-loop-instance : goal.invariant-loop-instance
invariant-loop-instance l = l.copied ≡ take l.instance-index l.instance-items
