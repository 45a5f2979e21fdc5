use Rattle.std.proofs.Common.{take}
use Rattle.mv_graph.specs.Nets.{has_id}
use Rattle.mv_net.specs.Seen.{AlsoMarked}
use Rattle.mv_net.proofs.seen.mark_nets.Given as goal

abbrev pub invariant-loop-net : goal.invariant-loop-net
invariant-loop-net l = AlsoMarked l.initial.marks (has_id (take l.net-index l.nets)) l.marks
