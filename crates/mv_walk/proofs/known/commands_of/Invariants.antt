use Rattle.std.proofs.Common.{take}
use Rattle.mv_walk.proofs.Listed.{AreSome}
use Rattle.mv_walk.proofs.known.commands_of.Given as goal

abbrev pub invariant-loop-instance : goal.invariant-loop-instance
invariant-loop-instance l = AreSome l.models l.round (take l.instance-index l.instances) l.commands
