use Rattle.std.proofs.Common.{List, sym, subst}
use Rattle.mv_base.specs.declared.number.NetId.{NetId}
use Rattle.mv_net.specs.declared.parts.NetParts.{NetParts}
use Rattle.mv_net.specs.Nets.{slot, net_reads}
use Rattle.mv_graph.specs.Nets.{IsAscending}
use Rattle.mv_net.proofs.network.Network.fanins.Goals as goal

pub returns : goal.returns
returns c =
    let P : NetParts → Type 0 = λ (p : NetParts). IsAscending (λ m. net_reads (slot p.nets c.args.n.0) m) c.fanins.result.now in
    let Q : List NetId → Type 0 = λ l. IsAscending (λ m. net_reads (slot c.self.inside.parts.nets c.args.n.0) m) l in
    subst P c.self.view_is (subst Q (sym c.fanins.ensures) (c.self.invariant.known.graph.each c.args.n.0))
