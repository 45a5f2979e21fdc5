use Rattle.std.proofs.Common.{◌≡◌, map, take}
use Rattle.mv_unfold.proofs.counts.zeros.Given as goal

abbrev pub invariant-loop-net : goal.invariant-loop-net
invariant-loop-net l = l.counts.items ≡ map (λ net. 0) (take l.net-index l.nets)
