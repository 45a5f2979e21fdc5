use Rattle.std.proofs.Common.{◌≡◌, take}
use Rattle.mv_kernels.proofs.kernel.Kernel.copy.Given as goal

abbrev pub invariant-loop-cube : goal.invariant-loop-cube
invariant-loop-cube l = l.cubes ≡ take l.cube-index l.cube-items
