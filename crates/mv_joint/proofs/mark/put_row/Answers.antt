use Rattle.std.proofs.Common.{◌≡◌, [], false, map, sym, subst, arith}
use Rattle.mv_rows.specs.Once.{PutsRows}
use Rattle.mv_rows.proofs.Existing.{puts_no_rows}
use Rattle.mv_joint.specs.declared.split.PlainRow.{PlainRow}
use Rattle.mv_joint.specs.Split.{is_possible}
use Rattle.mv_joint.specs.Plain.{mark_row}
use Rattle.mv_joint.proofs.Resting.{rest_none}
use Rattle.mv_joint.proofs.mark.put_row.Goals as goal

pub returns-then-not-branch-clause-rows : goal.returns-then-not-branch-clause-rows
returns-then-not-branch-clause-rows c =
    let cs = c.args.frame.now.columns in
    let set = c.args.set.now in
    let row : PlainRow = record { ins = c.args.row.now.ins; outs = [] } in
    let gone : is_possible cs row ≡ false = grind arith in
    subst (λ rows. PutsRows cs (map mark_row rows) set set)
    (sym (rest_none cs c.args.row.now.outs row c.requires.frame.columns c.requires.entries (record { sets = c.requires.sets }) gone)) (puts_no_rows cs set)
