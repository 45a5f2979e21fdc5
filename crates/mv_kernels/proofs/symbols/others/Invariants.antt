use Rattle.std.proofs.Common.{◌≡◌, take}
use Rattle.mv_kernels.specs.Symbols.{cube_quotient}
use Rattle.mv_kernels.proofs.symbols.others.Given as goal

abbrev pub invariant-loop-l : goal.invariant-loop-l
invariant-loop-l l = l.others.items ≡ cube_quotient l.symbols (take l.l-index l.lits)
