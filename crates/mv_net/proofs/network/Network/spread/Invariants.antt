use Rattle.mv_net.specs.Searching.{HasSpread}
use Rattle.mv_net.proofs.network.Network.spread.Given as goal

abbrev pub invariant-loop-place : goal.invariant-loop-place
invariant-loop-place l = HasSpread l.self.nets l.way l.start l.place l.fn.found.keys l.found.keys
