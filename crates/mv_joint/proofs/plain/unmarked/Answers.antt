use Rattle.std.proofs.Common.{[], refl, ◌∙◌, ap, arith}
use Rattle.indexmap.specs.IndexSet.{insert_all}
use Rattle.mv_joint.specs.OutRows.{same_outs}
use Rattle.mv_joint.specs.Split.{all_rows}
use Rattle.mv_joint.specs.Joint.{given}
use Rattle.mv_joint.proofs.Gathering.{joined-said, wide_by}
use Rattle.mv_joint.proofs.Wide.{distinct_unmarked, stops_unmarked}
use Rattle.mv_joint.proofs.plain.unmarked.Goals as goal

pub returns-in-Err-clause-stop : goal.returns-in-Err-clause-stop
returns-in-Err-clause-stop c =
    let columns = c.args.frame.now.columns in
    stops_unmarked columns (all_rows columns c.args.table.now.rows) c.args.default c.in-Err.stop c.in-Err.ensures.stop

pub returns-clause-found : goal.returns-clause-found
returns-clause-found c =
    let columns = c.args.frame.now.columns in
    let rows = all_rows columns c.args.table.now.rows in
    let default = c.args.default in
    let gathered = c.in-Ok.ensures.rows in
    record {
      columns = c.in_ok-copy.ensures;
      rows = gathered.rows;
      default = refl;
      choices =
          distinct_unmarked columns rows default _
          (c.in_ok-add_given.ensures ∙ ap (λ keys. insert_all same_outs keys (given default)) (gathered.outs ∙ joined-said [] rows));
    }

pub returns-then-len-gt-MAX_JOINT_ROWS-clause-stop : goal.returns-then-len-gt-MAX_JOINT_ROWS-clause-stop
returns-then-len-gt-MAX_JOINT_ROWS-clause-stop c =
    let columns = c.args.frame.now.columns in
    let rows = all_rows columns c.args.table.now.rows in
    let default = c.args.default in
    wide_by _ _
    (distinct_unmarked columns rows default _
    (c.in_ok-add_given.ensures ∙ ap (λ keys. insert_all same_outs keys (given default)) (c.in-Ok.ensures.rows.outs ∙ joined-said [] rows)))
    (omega arith)
