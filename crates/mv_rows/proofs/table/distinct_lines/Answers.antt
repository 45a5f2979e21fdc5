use Rattle.std.proofs.Common.{sym, subst}
use Rattle.std.proofs.lemmas.List.Elements.{All-nil}
use Rattle.mv_rows.specs.Named.{HaveLinesAmong}
use Rattle.mv_rows.proofs.Existing.{distinct_none}
use Rattle.mv_rows.proofs.SameLines.{distinct_row, row_many}
use Rattle.mv_rows.proofs.table.distinct_lines.Goals as goal

pub loop-row-init : goal.loop-row-init
loop-row-init c = record {
  distinct = distinct_none c.args.frame.now.columns c.args.rows.now c.args.most c.new-set.result c.new-set.ensures;
  named = subst (HaveLinesAmong c.args.frame.now.columns c.new-set.result.lines.keys) (sym c.new-named.ensures.empty) (All-nil _);
}

pub loop-row-preserved : goal.loop-row-preserved
loop-row-preserved c = record {
  distinct =
      distinct_row c.args.frame.now.columns c.args.rows.now c.args.most c.loop-row.row-index c.row-item.result c.loop-row.set c.put_row.new.set c.loop-row-test.true c.row-item.is
      c.loop-row.invariant.distinct c.in-Ok.ensures.rows;
  named = c.in-Ok.ensures.named;
}

pub returns-in-Err-clause-stop : goal.returns-in-Err-clause-stop
returns-in-Err-clause-stop c =
    row_many c.args.frame.now.columns c.args.rows.now c.args.most c.loop-row.row-index c.row-item.result c.loop-row.set c.in-Err.stop
    c.requires.frame.columns c.requires.rows c.loop-row-test.true c.row-item.is c.loop-row.invariant.distinct c.in-Err.ensures.stop
