-- The table at the place stands for the one that has its rows.
use Rattle.std.proofs.Common.{◌≡◌, Bool, sym, subst}
use Rattle.std.specs.Prelude.{IfOk}
use Rattle.mv_design.specs.declared.table.FileTable.{FileTable}
use Rattle.mv_flat.specs.Shared.{HasRowsOf}
use Rattle.mv_flat.proofs.Origins.{same_stands}
use Rattle.mv_flat.proofs.shared.marked_at.Goals as goal

pub is_joint_marked-requires-clause-table : goal.is_joint_marked-requires-clause-table
is_joint_marked-requires-clause-table c =
    let P : FileTable → Type 0 = λ x. HasRowsOf c.args.table.now x in
    let same = subst P (sym c.index-tables-at.is) (c.requires.rows _) in
    (same_stands c.args.table.now c.index-tables-at.result same).file c.args.columns.now c.requires.table

pub returns : goal.returns
returns c =
    let P : FileTable → Type 0 = λ x. HasRowsOf c.args.table.now x in
    let same = subst P (sym c.index-tables-at.is) (c.requires.rows _) in
    let Q : Bool → Type 0 = λ y. IfOk c.is_joint_marked.result (λ b. b ≡ y) in
    subst Q ((same_stands c.args.table.now c.index-tables-at.result same).marked c.args.columns.now) c.is_joint_marked.ensures
