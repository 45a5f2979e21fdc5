use Rattle.std.proofs.Common.{take}
use Rattle.mv_gains.specs.Grown.{Grew, IsOneOf}
use Rattle.mv_gains.specs.Kernels.{IsKernelOfPart}
use Rattle.mv_gains.proofs.kernels.add_table.Given as goal

abbrev pub invariant-loop-part : goal.invariant-loop-part
invariant-loop-part l = Grew (IsOneOf IsKernelOfPart (take l.part-index l.parts)) l.fn.found.keys l.found.keys
