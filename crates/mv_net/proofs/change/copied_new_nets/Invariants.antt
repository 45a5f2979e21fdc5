use Rattle.std.proofs.Common.{◌≡◌, take}
use Rattle.mv_net.proofs.change.copied_new_nets.Given as goal

abbrev pub invariant-loop-net : goal.invariant-loop-net
invariant-loop-net l = l.copies ≡ take l.net-index l.net-items
