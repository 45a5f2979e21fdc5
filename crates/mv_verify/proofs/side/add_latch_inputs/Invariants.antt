use Rattle.std.proofs.Common.{◌≡◌, ◌++◌, drop}
use Rattle.mv_verify.specs.Sides.{latch_inputs}
use Rattle.mv_verify.proofs.side.add_latch_inputs.Given as goal

abbrev pub invariant-loop-latch : goal.invariant-loop-latch
invariant-loop-latch l =
    l.nets.items ++ latch_inputs (drop l.latch-index l.latches) ≡ l.fn.nets.items ++ latch_inputs l.latches
