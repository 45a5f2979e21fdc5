-- The labels are ranks.
use Rattle.mv_graph.specs.Above.{reads_by}
use Rattle.mv_graph.proofs.Ranks.{ranked_acyclic}
use Rattle.mv_dag.specs.Ordered.{at}
use Rattle.mv_dag.proofs.dag.Dag.well_formed.Goals as goal

pub returns-clause-acyclic : goal.returns-clause-acyclic
returns-clause-acyclic c =
    rw (← c.self.view_is) (ranked_acyclic (reads_by c.self.inside.fanins) (record { rank = at c.self.inside.labels.items; falls = c.self.invariant.ordered.falls }))
