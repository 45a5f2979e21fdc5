-- The marks so far are those of the first literals.
use Rattle.mv_cover.specs.Marks.{narrow_marks}
use Rattle.mv_cover.proofs.Marking.{gathers_more, gathers_all}
use Rattle.mv_cover.proofs.marks.all_narrow.Goals as goal

pub loop-l-preserved : goal.loop-l-preserved
loop-l-preserved c =
    gathers_more narrow_marks c.args.lits.now c.loop-l.l-index c.loop-l.marks c.narrow_marks-marks.result c.l-item.result c.loop-l-test.true c.l-item.is c.narrow_marks-marks.ensures c.loop-l.invariant

pub returns : goal.returns
returns c = gathers_all narrow_marks c.args.lits.now c.loop-l.l-index c.loop-l.marks c.loop-l-test.false c.loop-l.invariant
