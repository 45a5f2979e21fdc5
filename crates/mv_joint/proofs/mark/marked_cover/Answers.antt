use Rattle.std.proofs.Common.{◌≡◌, List, [], ◌∷◌, Some, map, ◌∙◌, ap}
use Rattle.mv_base.specs.Set.{one}
use Rattle.mv_design.specs.declared.table.Entry.{Entry}
use Rattle.mv_design.specs.declared.table.Entry.TheVariants.{Set}
use Rattle.mv_rows.proofs.Existing.{table_stops}
use Rattle.mv_joint.specs.Split.{all_rows}
use Rattle.mv_joint.specs.Plain.{mark_row, mark_table}
use Rattle.mv_joint.proofs.Marks.{set_listed, cover_made}
use Rattle.mv_joint.proofs.mark.marked_cover.Goals as goal

pub returns-in-Err-clause-stop : goal.returns-in-Err-clause-stop
returns-in-Err-clause-stop c =
    let cs = c.args.columns.now in
    table_stops cs (mark_table (all_rows cs c.args.table.now.rows)) c.args.mark c.args.most c.in-Err.stop c.requires.with_mark
    (rw c.in_ok-frame.ensures.columns at c.in-Err.ensures.stop)

pub flat_table_of-requires-clause-distinct : goal.flat_table_of-requires-clause-distinct
flat_table_of-requires-clause-distinct c =
    let cs = c.args.columns.now in
    set_listed cs (map mark_row (all_rows cs c.args.table.now.rows)) c.args.most c.in-Ok.set (rw c.in_ok-frame.ensures.columns at c.in-Ok.ensures.lines)

pub returns-clause-cover : goal.returns-clause-cover
returns-clause-cover c =
    let cs = c.args.columns.now in
    let entries : c.one.result ≡ Set (one 1) ∷ [] = c.one.ensures ∙ ap (λ (e : Entry). e ∷ []) c.in_ok-one_entry.ensures in
    cover_made cs c.args.table.now c.args.mark c.args.most (Some c.one.result) c.in-Ok.set c.in_ok-flat.flat c.requires.columns c.requires.table
    (ap (λ (es : List Entry). Some es) entries)
    (rw c.in_ok-frame.ensures.columns at c.in-Ok.ensures.lines)
    c.in_ok-flat.ensures
