use Rattle.std.proofs.Common.{◌≡◌, ◌++◌, drop}
use Rattle.mv_net.specs.Formed.{latch_outputs}
use Rattle.mv_verify.proofs.side.add_latch_outputs.Given as goal

abbrev pub invariant-loop-latch : goal.invariant-loop-latch
invariant-loop-latch l =
    l.nets.items ++ latch_outputs (drop l.latch-index l.latches) ≡ l.fn.nets.items ++ latch_outputs l.latches
