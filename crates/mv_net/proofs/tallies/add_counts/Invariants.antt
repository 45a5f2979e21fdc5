use Rattle.std.proofs.Common.{◌≡◌, ◌++◌, map, take}
use Rattle.mv_net.specs.Nets.{values_in}
use Rattle.mv_net.proofs.tallies.add_counts.Given as goal

abbrev pub invariant-loop-net : goal.invariant-loop-net
invariant-loop-net l = l.counts ≡ l.fn.counts ++ map values_in (take l.net-index l.nets)
