use Rattle.std.proofs.Common.{take}
use Rattle.mv_net.specs.Index.{is_latch_input}
use Rattle.mv_net.specs.Seen.{AlsoMarked}
use Rattle.mv_net.proofs.seen.mark_inputs.Given as goal

abbrev pub invariant-loop-latch : goal.invariant-loop-latch
invariant-loop-latch l = AlsoMarked l.initial.marks (is_latch_input (take l.latch-index l.latches)) l.marks
