use Rattle.std.proofs.Common.{◌≡◌, take}
use Rattle.mv_net.specs.Index.{line_nets}
use Rattle.mv_net.proofs.fanins.nets_of.Given as goal

abbrev pub invariant-loop-line : goal.invariant-loop-line
invariant-loop-line l = l.nets.items ≡ line_nets (take l.line-index l.line-items)
