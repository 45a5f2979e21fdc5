use Rattle.std.proofs.Common.{◌≡◌, ◌++◌, drop}
use Rattle.mv_net.specs.Formed.{latch_resets}
use Rattle.mv_verify.proofs.side.add_latch_resets.Given as goal

abbrev pub invariant-loop-latch : goal.invariant-loop-latch
invariant-loop-latch l =
    l.nets.items ++ latch_resets (drop l.latch-index l.latches) ≡ l.fn.nets.items ++ latch_resets l.latches
