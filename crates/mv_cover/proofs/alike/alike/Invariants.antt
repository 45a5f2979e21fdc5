use Rattle.std.proofs.Common.{take}
use Rattle.mv_cover.proofs.ValueClasses.{Alike}
use Rattle.mv_cover.proofs.alike.alike.Given as goal

abbrev pub invariant-loop-cube : goal.invariant-loop-cube
invariant-loop-cube l = Alike (take l.cube-index l.cubes) l.net.0 l.value.0 l.set
