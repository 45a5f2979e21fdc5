use Rattle.std.proofs.Common.{◌∙◌, ◌++◌, [], ◌∷◌, ap, List}
use Rattle.mv_rows.specs.declared.column.Column.{Column}
use Rattle.mv_rows.proofs.Rows.{fit_marked}
use Rattle.mv_rows.proofs.table.put_default.Goals as goal

pub put_row-requires-clause-sets : goal.put_row-requires-clause-sets
put_row-requires-clause-sets c =
    rw (c.as_slice-2.ensures.value ∙ c.in_ok-sets.ensures)
    (rw (c.in_ok-frame.ensures.columns ∙ (c.as_slice.ensures.value ∙ (c.in_ok-push.ensures.items ∙ ap (λ (cs : List Column). cs ++ record { net = c.args.mark; count = 2 } ∷ []) c.in_ok-marked.ensures.items)))
    (fit_marked c.args.columns.now c.args.mark))
