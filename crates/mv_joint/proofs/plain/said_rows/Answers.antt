use Rattle.std.proofs.Common.{◌≡◌, true, false, arith}
use Rattle.std.specs.List.{list_any}
use Rattle.mv_rows.specs.Flat.{says_nothing}
use Rattle.mv_joint.proofs.Taken.{said_skipped, said_row, stops_at_said}
use Rattle.mv_joint.proofs.plain.said_rows.Goals as goal

pub loop-row-preserved-then-some_empty : goal.loop-row-preserved-then-some_empty
loop-row-preserved-then-some_empty c =
    let none : list_any says_nothing c.row-item.result.outs ≡ true = grind arith in
    record {
      gathered =
          said_skipped c.args.frame.now.columns c.args.table.now.rows c.loop-row.row-index c.row-item.result c.loop-row.gathered
          (rw c.as_slice-row-items.ensures at c.loop-row-test.true)
          (rw c.as_slice-row-items.ensures at c.row-item.is)
          none
          c.loop-row.invariant.gathered;
      few = c.loop-row.invariant.few;
    }

pub returns-in-Err-clause-stop : goal.returns-in-Err-clause-stop
returns-in-Err-clause-stop c =
    let some : list_any says_nothing c.row-item.result.outs ≡ false = grind arith in
    stops_at_said c.args.frame.now.columns c.args.table.now.rows c.loop-row.row-index c.row-item.result c.loop-row.gathered c.in-Err.stop
    (rw c.as_slice-row-items.ensures at c.loop-row-test.true)
    (rw c.as_slice-row-items.ensures at c.row-item.is)
    some
    c.loop-row.invariant.gathered
    (rw (c.as_slice-ins.ensures, c.as_slice-outs.ensures) at c.in-Err.ensures.stop)

pub loop-row-preserved : goal.loop-row-preserved
loop-row-preserved c =
    let some : list_any says_nothing c.row-item.result.outs ≡ false = grind arith in
    record {
      gathered =
          said_row c.args.frame.now.columns c.args.table.now.rows c.loop-row.row-index c.row-item.result c.loop-row.gathered c.put_rows.new.gathered
          (rw c.as_slice-row-items.ensures at c.loop-row-test.true)
          (rw c.as_slice-row-items.ensures at c.row-item.is)
          some
          c.loop-row.invariant.gathered
          (rw (c.as_slice-ins.ensures, c.as_slice-outs.ensures) at c.in-Ok.ensures.rows);
      few = c.in-Ok.ensures.few;
    }
