use Rattle.std.proofs.Common.{◌≡◌, length}
use Rattle.mv_graph.proofs.transpose.count_all.Given as goal

abbrev pub invariant-loop-net : goal.invariant-loop-net
invariant-loop-net l = length l.counts ≡ length l.fn.counts
