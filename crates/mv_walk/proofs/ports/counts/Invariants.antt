use Rattle.std.proofs.Common.{take}
use Rattle.mv_walk.specs.Commands.{Finds, declared_count}
use Rattle.mv_walk.proofs.ports.counts.Given as goal

abbrev pub invariant-loop-decl : goal.invariant-loop-decl
invariant-loop-decl l = Finds l.counts (declared_count (take l.decl-index l.decls))
