use Rattle.std.proofs.Common.{◌-◌, ◌^◌, length}
use Rattle.mv_dag.specs.Searches.{leads_to}
use Rattle.mv_dag.specs.Finding.{IsSearch}
use Rattle.mv_dag.proofs.reach.search.Given as goal

abbrev pub invariant-loop-place : goal.invariant-loop-place
invariant-loop-place l =
    IsSearch (leads_to l.way l.fanins) (length l.fanins) l.labels l.starts l.low l.high l.found.keys l.place

abbrev pub decreases-loop-place : goal.decreases-loop-place
decreases-loop-place l = 2 ^ 64 - l.place
