use Rattle.std.proofs.Common.{take}
use Rattle.mv_walk.specs.Commands.{HasAdded}
use Rattle.mv_walk.proofs.ports.add_names.Given as goal

abbrev pub invariant-loop-name : goal.invariant-loop-name
invariant-loop-name l = HasAdded l.fn.set (take l.name-index l.names) l.set
