use Rattle.std.proofs.Common.{◌∙◌, ap}
use Rattle.mv_graph.specs.Nets.{has_id}
use Rattle.mv_graph.proofs.Nets.{IsAscending-same}
use Rattle.mv_net.proofs.LineNets.{has_id-line_nets}
use Rattle.mv_net.proofs.fanins.fanins_of_cover.Goals as goal

pub returns : goal.returns
returns c =
    IsAscending-same _ _ _ (λ n. ap (λ ns. has_id ns n) c.in_ok-nets.ensures ∙ has_id-line_nets c.args.cover.now.lines n) c.ascending.ensures
