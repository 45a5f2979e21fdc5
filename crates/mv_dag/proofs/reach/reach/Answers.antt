-- All labels are those of the nets.
use Rattle.std.proofs.Common.{length}
use Rattle.mv_dag.specs.Searches.{leads_to}
use Rattle.mv_dag.proofs.Reaching.{search_reach}
use Rattle.mv_dag.proofs.reach.reach.Goals as goal

pub returns : goal.returns
returns c =
    search_reach (leads_to c.args.way c.args.fanins.now) (length c.args.fanins.now) c.args.labels.now c.args.starts.now c.args.low c.args.high _ c.requires.long c.in_ok-found.ensures.searched c.in_ok-found.ensures.distinct
