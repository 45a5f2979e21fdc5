use Rattle.std.proofs.Common.{◌≤◌, ◌-◌, length}
use Rattle.mv_base.specs.declared.limits.TheConstants.{MAX_KERNELS}
use Rattle.mv_kernels.specs.Below.{Walked}
use Rattle.mv_kernels.proofs.walk.kernels.Given as goal

abbrev pub invariant-loop-kernel : goal.invariant-loop-kernel
invariant-loop-kernel l = record { walked : Walked l.cubes l.found.keys l.next; few : length l.found.keys ≤ MAX_KERNELS }

abbrev pub decreases-loop-kernel : goal.decreases-loop-kernel
decreases-loop-kernel l = MAX_KERNELS - l.next
