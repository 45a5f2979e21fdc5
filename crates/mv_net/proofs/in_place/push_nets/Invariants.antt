use Rattle.std.proofs.Common.{◌≡◌, ◌++◌, map}
use Rattle.mv_net.specs.Changes.{made_net}
use Rattle.mv_net.proofs.in_place.push_nets.Given as goal

abbrev pub invariant-loop-new : goal.invariant-loop-new
invariant-loop-new l = l.nets ≡ l.fn.nets ++ map made_net l.yielded
