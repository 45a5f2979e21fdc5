use Rattle.std.proofs.Common.{take}
use Rattle.mv_net.specs.Names.{AreNames}
use Rattle.mv_net.proofs.names.add_names.Given as goal

abbrev pub invariant-loop-number : goal.invariant-loop-number
invariant-loop-number l = AreNames (take l.number l.nets) l.names
