use Rattle.std.proofs.Common.{◌≡◌, [], drop, map}
use Rattle.mv_design.specs.Nets.{output_of}
use Rattle.mv_acyclic.specs.Sound.{reset_owner_faults}
use Rattle.mv_acyclic.proofs.resets.check_each.Given as goal

abbrev pub invariant-loop-reset : goal.invariant-loop-reset
invariant-loop-reset l = reset_owner_faults l.latches l.seen (map output_of (drop l.reset-index l.resets)) ≡ reset_owner_faults l.latches [] (map output_of l.resets)
