-- Above a number that isn't held there is nothing.
use Rattle.std.proofs.Common.{◌∙◌, sym, subst}
use Rattle.mv_graph.specs.Above.{IsAbove}
use Rattle.mv_net.specs.Nets.{reads_in}
use Rattle.mv_net.specs.Window.{Lists}
use Rattle.mv_net.proofs.Paths.{above_none}
use Rattle.mv_net.proofs.network.Network.above.Goals as goal

pub returns-then-not-holds : goal.returns-then-not-holds
returns-then-not-holds c =
    subst (Lists (λ m. IsAbove (reads_in c.args.self.now.nets) m c.args.n.0)) (sym c.new.ensures) (above_none c.args.self.now.nets c.args.n.0 (sym c.holds.ensures ∙ c.if-not-holds.true))
