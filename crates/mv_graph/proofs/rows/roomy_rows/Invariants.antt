use Rattle.std.proofs.Common.{◌≡◌, [], replicate}
use Rattle.mv_graph.proofs.rows.roomy_rows.Given as goal

abbrev pub invariant-loop-room : goal.invariant-loop-room
invariant-loop-room l = l.rows ≡ replicate l.room-index []
