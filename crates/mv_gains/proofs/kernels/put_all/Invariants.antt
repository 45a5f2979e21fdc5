use Rattle.mv_gains.specs.Grown.{Grew, IsOneOf}
use Rattle.mv_gains.specs.Kernels.{IsSymbolic}
use Rattle.mv_gains.proofs.kernels.put_all.Given as goal

abbrev pub invariant-loop-kernel : goal.invariant-loop-kernel
invariant-loop-kernel l = Grew (IsOneOf IsSymbolic l.yielded) l.fn.found.keys l.found.keys
