use Rattle.std.proofs.Common.{◌≡◌}
use Rattle.indexmap.specs.IndexSet.{insert_all}
use Rattle.mv_kernels.specs.Equal.{kernel_eq}
use Rattle.mv_kernels.proofs.walk.put_all.Given as goal

abbrev pub invariant-loop-kernel : goal.invariant-loop-kernel
invariant-loop-kernel l = l.found.keys ≡ insert_all kernel_eq l.fn.found.keys l.yielded
