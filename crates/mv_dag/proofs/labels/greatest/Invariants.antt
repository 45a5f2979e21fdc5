use Rattle.std.proofs.Common.{◌≡◌, ℕ, ◌≤◌, true, take}
use Rattle.mv_graph.specs.Nets.{has_id}
use Rattle.mv_dag.specs.Ordered.{at}
use Rattle.mv_dag.proofs.labels.greatest.Given as goal

abbrev pub invariant-loop-net : goal.invariant-loop-net
invariant-loop-net l = (n : ℕ) → has_id (take l.net-index l.nets) n ≡ true → at l.labels n ≤ l.greatest
