-- Each net has few, and there are few nets.
use Rattle.std.proofs.Common.{arith}
use Rattle.mv_net.proofs.Tallied.{literals-most}
use Rattle.mv_net.proofs.network.Network.few_literals.Goals as goal

pub returns : goal.returns
returns c = rw (← c.self.view_is) (omega (arith, literals-most c.self.inside.parts.nets (record { each = c.self.invariant.known.tallies.few }), c.self.invariant.few))
