use Rattle.std.proofs.Common.{◌≡◌, take, map}
use Rattle.mv_design.specs.Nets.{latch_naming}
use Rattle.mv_acyclic.proofs.naming.of_latches.Given as goal

abbrev pub invariant-loop-latch : goal.invariant-loop-latch
invariant-loop-latch l = l.all.items ≡ map latch_naming (take l.latch-index l.latches)
