use Rattle.std.proofs.Common.{[], ◌&&◌, take}
use Rattle.mv_graph.specs.Nets.{has_id}
use Rattle.mv_dag.specs.Finding.{is_in, HasGained}
use Rattle.mv_dag.proofs.reach.started.Given as goal

abbrev pub invariant-loop-net : goal.invariant-loop-net
invariant-loop-net l =
    HasGained [] l.found.keys (λ n. has_id (take l.net-index l.nets) n && is_in l.labels l.low l.high n)
