use Rattle.std.proofs.Common.{drop}
use Rattle.mv_gains.specs.Kernels.{AreCandidates}
use Rattle.mv_gains.specs.Renewing.{AreUnseenElse}
use Rattle.mv_gains.proofs.gains.with_kernels.Given as goal

abbrev pub invariant-loop-n : goal.invariant-loop-n
invariant-loop-n l = record {
  candidates : AreCandidates l.covers (drop l.n-index l.waiting) l.list.items;
  unseen : AreUnseenElse l.initial.list.items l.list.items;
}
