use Rattle.std.proofs.Common.{take}
use Rattle.mv_cycles.specs.Walking.{HasMarked}
use Rattle.mv_cycles.proofs.walk.Walk.mark.Given as goal

abbrev pub invariant-loop-net : goal.invariant-loop-net
invariant-loop-net l = HasMarked l.initial.self l.self (take l.net-index l.nets)
