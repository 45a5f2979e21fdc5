-- The table at the place gets a mark where the table with its rows does.
use Rattle.std.proofs.Common.{◌∙◌, sym, subst}
use Rattle.mv_design.specs.declared.table.FileTable.{FileTable}
use Rattle.mv_flat.specs.Shared.{HasRowsOf}
use Rattle.mv_flat.proofs.Origins.{same_marked}
use Rattle.mv_flat.proofs.shared.flat_at.Goals as goal

pub flat_table-requires-clause-unread : goal.flat_table-requires-clause-unread
flat_table-requires-clause-unread c =
    let f = c.index_mut-shared.result.now in
    let P : FileTable → Type 0 = λ x. HasRowsOf c.args.table.now x in
    let same : HasRowsOf c.args.table.now f = subst P (sym c.index_mut-shared.ensures.value) (c.requires.rows _) in
    λ marked. c.requires.unread (sym (same_marked c.args.columns.now c.args.table.now f same) ∙ marked)
