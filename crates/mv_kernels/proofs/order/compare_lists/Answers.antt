use Rattle.std.proofs.Common.{◌∙◌, sym, arith}
use Rattle.mv_kernels.specs.Order.{cube_cmp}
use Rattle.mv_kernels.proofs.Orders.{cmp-ended}
use Rattle.mv_kernels.proofs.order.compare_lists.Goals as goal

pub returns : goal.returns
returns c =
    c.cmp.ensures ∙ (sym (cmp-ended cube_cmp c.args.a.now c.args.b.now c.loop-i.i (omega arith) (omega arith) (omega arith)) ∙ c.loop-i.invariant.1)
