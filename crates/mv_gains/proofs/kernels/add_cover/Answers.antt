use Rattle.std.proofs.lemmas.Result.{IfOk-weaker}
use Rattle.mv_gains.specs.Grown.{Grew, IsOneOf}
use Rattle.mv_gains.specs.Kernels.{IsSymbolic, IsKernelFrom}
use Rattle.mv_gains.proofs.Symbolic.{kernels_put}
use Rattle.mv_gains.proofs.kernels.add_cover.Goals as goal

pub returns-in-Ok : goal.returns-in-Ok
returns-in-Ok c =
    let old = c.args.found.now.keys in
    let new = c.put_all.new.found.keys in
    IfOk-weaker c.put_all.result (λ _. Grew (IsOneOf IsSymbolic c.in-Ok.kernels.items) old new) (λ _. Grew (IsKernelFrom c.args.cover.now) old new)
    (λ _ g. kernels_put c.args.cover.now c.in-Ok.kernels.items old new c.in-Ok.ensures.are c.in-Ok.ensures.all c.in-Ok.ensures.few g) c.put_all.ensures
