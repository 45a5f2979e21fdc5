-- The next symbol leads to one more kernel, or to none.
use Rattle.mv_kernels.proofs.Walks.{below_more, below_skips}
use Rattle.mv_kernels.proofs.walk.below_by.Goals as goal
use Rattle.mv_kernels.proofs.walk.below_by.Goals.{in-Some+in_ok-push, in_default}

pub loop-symbol-preserved : goal.loop-symbol-preserved
loop-symbol-preserved c =
    elim c.match-branch-3.branch [
      | in-Some+in_ok-push w ↦
          rw (w.below-is, w.in_ok-push.ensures.items)
          (below_more c.args.cubes.now c.args.symbols.now c.loop-symbol.symbol-index c.symbol-item.result c.loop-symbol.below.items w.in-Some.kernel c.loop-symbol-test.true c.symbol-item.is (rw (w.in-Some.is, c.in_ok-copy.ensures) at c.in_ok-kernel.ensures.some) c.loop-symbol.invariant)
      | in_default w ↦
          rw w.below-is
          (below_skips c.args.cubes.now c.args.symbols.now c.loop-symbol.symbol-index c.symbol-item.result c.loop-symbol.below.items c.loop-symbol-test.true c.symbol-item.is (rw (w.in_default.is, c.in_ok-copy.ensures) at c.in_ok-kernel.ensures.none) c.loop-symbol.invariant)
    ]
