use Rattle.std.proofs.Common.{◌&&◌, take}
use Rattle.mv_graph.specs.Nets.{has_id}
use Rattle.mv_dag.specs.Searches.{leads_to}
use Rattle.mv_dag.specs.Finding.{is_in, HasGained}
use Rattle.mv_dag.proofs.reach.follow.Given as goal

abbrev pub invariant-loop-next : goal.invariant-loop-next
invariant-loop-next l =
    HasGained l.initial.found.keys l.found.keys
    (λ n. has_id (take l.next-index l.nets) n && (is_in l.labels l.low l.high n && leads_to l.way l.fanins l.net.0 n))
