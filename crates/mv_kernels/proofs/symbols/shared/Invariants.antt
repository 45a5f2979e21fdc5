use Rattle.std.proofs.Common.{◌≡◌, take, filter}
use Rattle.mv_kernels.specs.Symbols.{all_have}
use Rattle.mv_kernels.proofs.symbols.shared.Given as goal

abbrev pub invariant-loop-l : goal.invariant-loop-l
invariant-loop-l l = l.shared.items ≡ filter (all_have l.rest) (take l.l-index l.first)
