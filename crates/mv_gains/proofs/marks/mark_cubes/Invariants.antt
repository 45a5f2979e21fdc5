use Rattle.std.proofs.Common.{take}
use Rattle.mv_gains.specs.Grown.{IsOneOf}
use Rattle.mv_gains.specs.Known.{IsCubeOn, IsMarked}
use Rattle.mv_gains.proofs.marks.mark_cubes.Given as goal

abbrev pub invariant-loop-cube : goal.invariant-loop-cube
invariant-loop-cube l = IsMarked l.now (IsOneOf IsCubeOn (take l.cube-index l.cubes)) l.fn.changed.items l.changed.items
