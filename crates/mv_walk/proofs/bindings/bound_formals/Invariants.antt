use Rattle.std.proofs.Common.{take}
use Rattle.mv_walk.specs.Commands.{HasBound}
use Rattle.mv_walk.proofs.bindings.bound_formals.Given as goal

abbrev pub invariant-loop-bind : goal.invariant-loop-bind
invariant-loop-bind l = HasBound (take l.bind-index l.binds) l.bound
