use Rattle.std.proofs.Common.{take}
use Rattle.mv_kernels.specs.Below.{AreBelowBy}
use Rattle.mv_kernels.proofs.walk.below_by.Given as goal

abbrev pub invariant-loop-symbol : goal.invariant-loop-symbol
invariant-loop-symbol l = AreBelowBy l.cubes (take l.symbol-index l.symbols) l.below.items
