use Rattle.mv_gains.specs.Kernels.{IsSymbolic}
use Rattle.mv_gains.proofs.Growing.{grew_push}
use Rattle.mv_gains.proofs.kernels.put_all.Goals as goal

pub loop-kernel-preserved : goal.loop-kernel-preserved
loop-kernel-preserved c = grew_push IsSymbolic c.loop-kernel.yielded c.in-Some.kernel c.args.found.now.keys c.loop-kernel.found.keys c.put.new.found.keys c.loop-kernel.invariant c.in_ok-put.ensures
