use Rattle.std.proofs.Common.{subst}
use Rattle.mv_net.specs.declared.parts.NetParts.{NetParts}
use Rattle.mv_net.specs.Index.{AreFanins}
use Rattle.mv_net.proofs.HeldOrder.{above_told}
use Rattle.mv_net.proofs.network.Network.is_above.Goals as goal

pub returns : goal.returns
returns c =
    let P : NetParts → Type 0 = λ p. AreFanins p.nets c.self.inside.kept.graph in
    above_told c.is_above.result c.args.self.now.nets c.self.inside.kept.graph c.args.above.0 c.args.n.0 (subst P c.self.view_is c.self.invariant.known.graph) c.is_above.ensures
