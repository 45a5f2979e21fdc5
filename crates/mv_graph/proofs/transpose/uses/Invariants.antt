use Rattle.std.proofs.Common.{◌≡◌, length}
use Rattle.mv_graph.proofs.transpose.uses.Given as goal

abbrev pub invariant-loop-nets : goal.invariant-loop-nets
invariant-loop-nets l = length l.counts.items ≡ length l.rows
