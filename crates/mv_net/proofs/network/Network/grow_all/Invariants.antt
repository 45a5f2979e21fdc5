use Rattle.std.proofs.Common.{ℕ, ◌-◌, ◌^◌}
use Rattle.mv_net.specs.Searching.{IsSearch}
use Rattle.mv_net.proofs.network.Network.grow_all.Given as goal

abbrev pub invariant-loop-start : goal.invariant-loop-start
invariant-loop-start l = (steps : ℕ) × IsSearch l.self.nets l.way l.fn.found.keys steps l.start l.found.keys

abbrev pub decreases-loop-start : goal.decreases-loop-start
decreases-loop-start l = 2 ^ 64 - l.start
