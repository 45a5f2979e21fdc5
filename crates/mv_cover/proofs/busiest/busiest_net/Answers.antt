-- The busiest net so far is one of the cubes'.
use Rattle.std.proofs.Common.{◌∙◌, ap, List}
use Rattle.mv_base.specs.declared.number.NetId.{NetId}
use Rattle.mv_cover.specs.Literal.{Lit}
use Rattle.mv_cover.specs.Covers.{cube_reads}
use Rattle.mv_cover.proofs.Covering.{read_more}
use Rattle.mv_cover.proofs.busiest.busiest_net.Goals as goal

pub loop-cube-preserved : goal.loop-cube-preserved
loop-cube-preserved c =
    read_more c.args.cubes.now c.loop-cube.cube-index c.cube-item.result c.in_ok-best.best.net.0 c.loop-cube.best.net.0 c.loop-cube-test.true c.cube-item.is c.loop-cube.invariant
    (λ f. ap (λ (n : NetId). n.0) (c.in_ok-best.ensures (ap (λ (x : List Lit). cube_reads x c.in_ok-best.best.net.0) c.as_slice.ensures ∙ f)))
