use Rattle.std.proofs.Common.{take}
use Rattle.mv_walk.specs.Commands.{Finds, place_named}
use Rattle.mv_walk.proofs.known.places.Given as goal

abbrev pub invariant-loop-place : goal.invariant-loop-place
invariant-loop-place l = Finds l.places (place_named (take l.place l.models))
