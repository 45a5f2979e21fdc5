use Rattle.std.proofs.Common.{take}
use Rattle.mv_meets.specs.Groups.{places_in, AreGroups}
use Rattle.mv_meets.proofs.groups.grouped.Given as goal

abbrev pub invariant-loop-place : goal.invariant-loop-place
invariant-loop-place l = AreGroups l.cubes l.low (take l.place-index l.places) (places_in l.groups)
