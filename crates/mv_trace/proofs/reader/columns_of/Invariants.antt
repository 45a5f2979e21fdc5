-- The columns so far, and behind them the latch outputs that are left.
use Rattle.std.proofs.Common.{◌≡◌, ◌++◌, drop}
use Rattle.mv_net.specs.Formed.{latch_outputs}
use Rattle.mv_trace.proofs.reader.columns_of.Given as goal

abbrev pub invariant-loop-latch : goal.invariant-loop-latch
invariant-loop-latch l =
    l.columns.items ++ latch_outputs (drop l.latch-index l.latches) ≡ l.net.inputs ++ latch_outputs l.latches
