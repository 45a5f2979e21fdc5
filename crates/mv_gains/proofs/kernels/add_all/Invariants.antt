use Rattle.std.proofs.Common.{◌≡◌, ◌++◌, map}
use Rattle.mv_gains.specs.Kernels.{new_candidate}
use Rattle.mv_gains.proofs.kernels.add_all.Given as goal

abbrev pub invariant-loop-kernel : goal.invariant-loop-kernel
invariant-loop-kernel l = l.list.items ≡ l.fn.list.items ++ map (new_candidate l.table) l.yielded
