use Rattle.std.proofs.Common.{List, subst}
use Rattle.std.proofs.lemmas.List.{take_all}
use Rattle.mv_cover.specs.Literal.{Lit}
use Rattle.mv_gains.specs.Grown.{IsOneOf}
use Rattle.mv_gains.specs.Known.{IsCubeOn, IsMarked}
use Rattle.mv_gains.proofs.Marking.{marked_none, marked_more}
use Rattle.mv_gains.proofs.marks.mark_cubes.Goals as goal

pub loop-cube-init : goal.loop-cube-init
loop-cube-init c = marked_none c.args.now (IsCubeOn) c.args.changed.now.items

pub loop-cube-preserved : goal.loop-cube-preserved
loop-cube-preserved c =
    marked_more c.args.now (IsCubeOn) c.args.cubes.now c.loop-cube.cube-index c.cube-item.result c.args.changed.now.items c.loop-cube.changed.items c.mark_literals.new.changed.items c.loop-cube-test.true c.cube-item.is c.loop-cube.invariant
    (subst (λ (ls : List Lit). IsMarked c.args.now (IsCubeOn ls) c.loop-cube.changed.items c.mark_literals.new.changed.items) c.lits.ensures.lits c.mark_literals.ensures)

pub returns : goal.returns
returns c =
    subst (λ (xs : List (List Lit)). IsMarked c.args.now (IsOneOf (IsCubeOn) xs) c.args.changed.now.items c.loop-cube.changed.items) (take_all c.loop-cube.cube-index c.args.cubes.now c.loop-cube-test.false)
    c.loop-cube.invariant
