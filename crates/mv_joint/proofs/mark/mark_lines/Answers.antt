use Rattle.mv_joint.proofs.Marks.{marks_none, marks_row, marks_stop}
use Rattle.mv_joint.proofs.mark.mark_lines.Goals as goal

pub loop-row-init : goal.loop-row-init
loop-row-init c = marks_none c.args.frame.now.columns c.args.most c.new-set.result c.new-set.ensures

pub loop-row-preserved : goal.loop-row-preserved
loop-row-preserved c =
    marks_row c.args.frame.now.columns c.args.table.now.rows c.args.most c.loop-row.row-index c.row-item.result c.loop-row.set c.put_row.new.set
    (rw c.as_slice-row-items.ensures at c.loop-row-test.true)
    (rw c.as_slice-row-items.ensures at c.row-item.is)
    c.loop-row.invariant
    c.in-Ok.ensures.rows

pub returns-in-Err-clause-stop : goal.returns-in-Err-clause-stop
returns-in-Err-clause-stop c =
    marks_stop c.args.frame.now.columns c.args.table.now c.args.most c.loop-row.row-index c.row-item.result c.loop-row.set c.in-Err.stop
    c.requires.frame.columns c.requires.table
    (rw c.as_slice-row-items.ensures at c.loop-row-test.true)
    (rw c.as_slice-row-items.ensures at c.row-item.is)
    c.loop-row.invariant
    c.in-Err.ensures.stop
