-- Below a number that isn't held there is nothing.
use Rattle.std.proofs.Common.{◌∙◌, sym, subst}
use Rattle.mv_graph.specs.Above.{IsAbove}
use Rattle.mv_net.specs.Nets.{reads_in}
use Rattle.mv_net.specs.Window.{Lists}
use Rattle.mv_net.proofs.Paths.{below_none}
use Rattle.mv_net.proofs.network.Network.below.Goals as goal

pub returns-then-not-holds : goal.returns-then-not-holds
returns-then-not-holds c =
    subst (Lists (IsAbove (reads_in c.args.self.now.nets) c.args.n.0)) (sym c.new.ensures) (below_none c.args.self.now c.args.n.0 c.well_formed-2.ensures (sym c.holds.ensures ∙ c.if-not-holds.true))
