use Rattle.std.proofs.Common.{◌≡◌, ◌+◌, ◌-◌, ◌^◌, min, take}
use Rattle.mv_net.specs.Window.{levels_of}
use Rattle.mv_net.proofs.network.Network.plus_levels.Given as goal

abbrev pub invariant-loop-net : goal.invariant-loop-net
invariant-loop-net l = l.levels ≡ min (l.start + levels_of l.self.nets (take l.net-index l.nets)) (2 ^ 64 - 1)
