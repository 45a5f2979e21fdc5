use Rattle.std.proofs.Common.{List, subst}
use Rattle.mv_cover.specs.Literal.{Lit}
use Rattle.mv_gains.specs.Grown.{Grew}
use Rattle.mv_gains.specs.Kernels.{IsKernelFrom, IsKernelOfPart}
use Rattle.mv_gains.proofs.Growing.{grew_more}
use Rattle.mv_gains.proofs.kernels.add_table.Goals as goal

pub loop-part-preserved : goal.loop-part-preserved
loop-part-preserved c =
    grew_more IsKernelOfPart c.args.parts.now c.loop-part.part-index c.part-item.result c.args.found.now.keys c.loop-part.found.keys c.add_cover.new.found.keys c.loop-part-test.true c.part-item.is c.loop-part.invariant
    (subst (λ (cover : List (List Lit)). Grew (IsKernelFrom cover) c.loop-part.found.keys c.add_cover.new.found.keys) c.cubes.ensures.cubes c.in_ok-add_cover.ensures)
