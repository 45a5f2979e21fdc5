use Rattle.mv_net.specs.Searching.{IsSearch}
use Rattle.mv_net.proofs.network.Network.grow.Given as goal

abbrev pub invariant-loop-step : goal.invariant-loop-step
invariant-loop-step l = IsSearch l.self.nets l.way l.fn.found.keys l._step l.start l.found.keys
