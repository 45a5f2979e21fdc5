use Rattle.std.proofs.Common.{◌≡◌, ◌*◌, ◌-◌, ◌^◌, min, take}
use Rattle.mv_net.specs.Window.{ways_of}
use Rattle.mv_net.proofs.network.Network.times_ways.Given as goal

abbrev pub invariant-loop-net : goal.invariant-loop-net
invariant-loop-net l = l.ways ≡ min (l.start * ways_of l.self.nets (take l.net-index l.nets)) (2 ^ 128 - 1)
