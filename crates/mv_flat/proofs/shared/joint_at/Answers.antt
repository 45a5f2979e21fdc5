-- The table at the place stands for the one that has its rows.
use Rattle.std.proofs.Common.{sym, subst}
use Rattle.mv_design.specs.declared.table.FileTable.{FileTable}
use Rattle.mv_flat.specs.Shared.{HasRowsOf}
use Rattle.mv_flat.proofs.Origins.{same_stands}
use Rattle.mv_flat.proofs.shared.joint_at.Goals as goal

pub joint_table-requires-clause-table : goal.joint_table-requires-clause-table
joint_table-requires-clause-table c =
    let P : FileTable → Type 0 = λ x. HasRowsOf c.args.table.now x in
    let same = subst P (sym c.index-tables-at.is) (c.requires.rows _) in
    (same_stands c.args.table.now c.index-tables-at.result same).file c.args.columns.now c.requires.table

pub returns-in-Ok-clause-lines : goal.returns-in-Ok-clause-lines
returns-in-Ok-clause-lines c =
    let P : FileTable → Type 0 = λ x. HasRowsOf c.args.table.now x in
    let same = subst P (sym c.index-tables-at.is) (c.requires.rows _) in
    (same_stands c.args.table.now c.index-tables-at.result same).made c.args.columns.now c.args.mark c.args.choice c.in-Ok.joint c.in-Ok.ensures.lines

pub returns-in-Err-clause-stop : goal.returns-in-Err-clause-stop
returns-in-Err-clause-stop c =
    let P : FileTable → Type 0 = λ x. HasRowsOf c.args.table.now x in
    let same = subst P (sym c.index-tables-at.is) (c.requires.rows _) in
    (same_stands c.args.table.now c.index-tables-at.result same).stops c.args.columns.now c.args.mark c.args.choice c.args.most c.in-Err.stop c.in-Err.ensures.stop
