-- The lists tell it.
use Rattle.std.proofs.Common.{◌≡◌, List, subst}
use Rattle.std.specs.List.{list_all}
use Rattle.mv_base.specs.declared.number.NetId.{NetId}
use Rattle.mv_graph.specs.Nets.{has_id}
use Rattle.mv_narrow.proofs.OverFanins.{over_answer}
use Rattle.mv_narrow.proofs.fanins.is_over_fanins.Goals as goal

pub returns : goal.returns
returns c =
    let P : List NetId → Type 0 = λ ns. c.are_among.result ≡ list_all (λ (k : NetId). has_id c.fanins.result.now k.0) ns in
    over_answer c.args.net.now.nets c.args.n.0 c.args.table.now c.in_ok-read.read c.fanins.result.now c.are_among.result c.in_ok-read.ensures c.fanins.ensures
    (subst P c.as_slice.ensures c.are_among.ensures)
