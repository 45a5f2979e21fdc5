use Rattle.std.proofs.Common.{◌≡◌, [], replicate}
use Rattle.mv_graph.proofs.rows.empty_rows.Given as goal

abbrev pub invariant-rows : goal.invariant-rows
invariant-rows l = l.rows ≡ replicate l.counter []
