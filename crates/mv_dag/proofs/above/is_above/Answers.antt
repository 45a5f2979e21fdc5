-- The search up from the net tells whether it comes to the other.
use Rattle.std.proofs.Common.{◌∙◌}
use Rattle.mv_dag.proofs.Gains.{id_among}
use Rattle.mv_dag.proofs.Walks.{above_told}
use Rattle.mv_dag.proofs.above.is_above.Goals as goal

pub returns : goal.returns
returns c =
    above_told c.args.fanins.now c.args.labels.now c.row_of-starts.result.now c.args.net.0 c.args.above.0 c.label_of-low.result c.label_of-high.result c.in_ok-found.found.keys c.contains.result
    c.row_of-starts.ensures c.label_of-low.ensures c.label_of-high.ensures c.requires.ordered c.in_ok-found.ensures
    (c.contains.ensures ∙ id_among c.in_ok-found.found.keys c.args.above)
