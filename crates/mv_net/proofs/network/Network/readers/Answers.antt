use Rattle.std.proofs.Common.{subst}
use Rattle.mv_net.specs.declared.parts.NetParts.{NetParts}
use Rattle.mv_net.specs.Nets.{slot, net_reads}
use Rattle.mv_graph.specs.Nets.{IsAscending}
use Rattle.mv_graph.proofs.Nets.{IsAscending-same}
use Rattle.mv_net.proofs.network.Network.readers.Goals as goal

pub returns : goal.returns
returns c =
    let P : NetParts → Type 0 = λ (p : NetParts). IsAscending (λ m. net_reads (slot p.nets m) c.args.n.0) c.readers.result.now in
    subst P c.self.view_is (IsAscending-same _ _ _ (λ k. (c.self.invariant.known.graph.each k).members c.args.n.0) c.readers.ensures)
