use Rattle.std.proofs.Common.{take, All}
use Rattle.mv_kernels.specs.Kernels.{HasFew}
use Rattle.mv_divide.specs.declared.part.Part.{Part}
use Rattle.mv_gains.proofs.kernels.has_many_kernels.Given as goal

abbrev pub invariant-loop-part : goal.invariant-loop-part
invariant-loop-part l = All (λ (p : Part). HasFew p.cover) (take l.part-index l.part-items)
