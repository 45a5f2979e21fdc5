use Rattle.std.proofs.Common.{take}
use Rattle.mv_gains.specs.Cubes.{IsSharedAt}
use Rattle.mv_gains.specs.Grown.{Grew, IsOneOf}
use Rattle.mv_gains.proofs.cubes.add_with.Given as goal

abbrev pub invariant-loop-place : goal.invariant-loop-place
invariant-loop-place l = Grew (IsOneOf (IsSharedAt l.cubes l.cube) (take l.place-index l.places)) l.fn.found.keys l.found.keys
