-- What is kept for a shape is the table's covers over the places of its columns, and so over the columns too.
use Rattle.std.proofs.Common.{◌≡◌, ◌∙◌, true, false, nat_eq, List, length, sym, subst, ap}
use Rattle.std.specs.List.{list_any}
use Rattle.std.specs.Prelude.{option_copied}
use Rattle.mv_base.specs.declared.number.NetId.{NetId}
use Rattle.mv_rows.specs.declared.column.Column.{Column}
use Rattle.mv_rows.specs.declared.table.FlatTable.{FlatTable}
use Rattle.mv_rows.specs.Cubes.{AreColumns}
use Rattle.mv_rows.specs.Flat.{with_mark, IsMade, IsTable}
use Rattle.mv_rows.specs.Many.{StopsAt}
use Rattle.mv_rows.specs.Marked.{is_marked}
use Rattle.mv_shapes.specs.Kept.{IsKept}
use Rattle.mv_shapes.specs.Shape.{flat_over, IsLowFlat}
use Rattle.mv_shapes.proofs.Codes.{found, kept_here}
use Rattle.mv_shapes.proofs.Shapes.{shape_columns, shape_marked, shape_table, shape_unread, shape_low, shape_made, shape_stop}
use Rattle.mv_shapes.proofs.shared.flat_kept.Goals as goal
use Rattle.mv_shapes.proofs.shared.flat_kept.Goals.{In-Some, In-Ok}

-- the covers that are found
held : (c : In-Some) → IsMade c.in_ok-shape.shape.columns.items c.args.table.now c.in_ok-shape.shape.mark c.in-Some.flat.now
held c =
    let t = c.args.table.now in
    let kept = found (IsKept t) c.args.flats.now.entries c.in_ok-key.key.items c.in-Some.flat.now c.requires.kept (sym c.get.ensures.value ∙ ap option_copied c.in-Some.is) in
    kept.made c.in_ok-shape.shape.columns.items c.in_ok-shape.shape.mark (sym c.in_ok-key.ensures)

pub flat_over-requires-clause-low : goal.flat_over-requires-clause-low
flat_over-requires-clause-low c =
    let P : List NetId → Type 0 = λ ns. IsLowFlat (length ns) c.in-Some.flat.now in
    subst P (sym c.as_slice.ensures)
    (shape_low c.args.columns.now c.args.mark c.in_ok-shape.shape c.in_ok-shape.ensures c.args.table.now c.in-Some.flat.now c.requires.columns c.requires.with_mark
    (held (goal.at.flat_over-requires-clause-low c).In-Some))

pub returns-in-Some-clause-lines : goal.returns-in-Some-clause-lines
returns-in-Some-clause-lines c =
    let P : FlatTable → Type 0 = λ f. IsMade c.args.columns.now c.args.table.now c.args.mark f in
    subst P (sym (c.in_ok-flat_over.ensures ∙ ap (λ ns. flat_over ns c.in-Some.flat.now) c.as_slice.ensures))
    (shape_made c.args.columns.now c.args.mark c.in_ok-shape.shape c.in_ok-shape.ensures c.args.table.now c.in-Some.flat.now
    (held (goal.at.returns-in-Some-clause-lines c).In-Some))

pub flat_table_within-requires-clause-columns : goal.flat_table_within-requires-clause-columns
flat_table_within-requires-clause-columns c =
    let P : List Column → Type 0 = λ cs. AreColumns cs in
    subst P (sym c.as_slice-places.ensures.value) (shape_columns c.args.columns.now c.args.mark c.in_ok-shape.shape c.in_ok-shape.ensures c.requires.columns)

pub flat_table_within-requires-clause-with_mark : goal.flat_table_within-requires-clause-with_mark
flat_table_within-requires-clause-with_mark c =
    let P : List Column → Type 0 = λ cs. AreColumns (with_mark cs c.in_ok-shape.shape.mark) in
    subst P (sym c.as_slice-places.ensures.value) (shape_marked c.args.columns.now c.args.mark c.in_ok-shape.shape c.in_ok-shape.ensures c.requires.with_mark)

pub flat_table_within-requires-clause-unread : goal.flat_table_within-requires-clause-unread
flat_table_within-requires-clause-unread c =
    let s = c.in_ok-shape.shape in
    let P : List Column → Type 0 = λ cs. is_marked cs c.args.table.now ≡ true → list_any (λ (d : Column). nat_eq d.net.0 s.mark.0) cs ≡ false in
    subst P (sym c.as_slice-places.ensures.value) (shape_unread c.args.columns.now c.args.mark s c.in_ok-shape.ensures c.args.table.now c.requires.unread)

pub flat_table_within-requires-clause-table : goal.flat_table_within-requires-clause-table
flat_table_within-requires-clause-table c =
    let P : List Column → Type 0 = λ cs. IsTable cs c.args.table.now in
    subst P (sym c.as_slice-places.ensures.value)
    (shape_table c.args.columns.now c.args.mark c.in_ok-shape.shape c.in_ok-shape.ensures c.args.table.now c.requires.table)

pub returns-in-Err-clause-stop : goal.returns-in-Err-clause-stop
returns-in-Err-clause-stop c =
    let s = c.in_ok-shape.shape in
    let P : List Column → Type 0 = λ cs. StopsAt cs c.args.table.now s.mark c.args.most c.in-Err.stop in
    shape_stop c.args.columns.now c.args.mark s c.in_ok-shape.ensures c.args.table.now c.args.most c.in-Err.stop (subst P c.as_slice-places.ensures.value c.in-Err.ensures.stop)

-- the covers that are made
made : (c : In-Ok) → IsMade c.in_ok-shape.shape.columns.items c.args.table.now c.in_ok-shape.shape.mark c.in-Ok.flat
made c =
    let P : List Column → Type 0 = λ cs. IsMade cs c.args.table.now c.in_ok-shape.shape.mark c.in-Ok.flat in
    subst P c.as_slice-places.ensures.value c.in-Ok.ensures.lines

pub flat_over-requires-2-clause-low : goal.flat_over-requires-2-clause-low
flat_over-requires-2-clause-low c =
    let P : List NetId → Type 0 = λ ns. IsLowFlat (length ns) c.in-Ok.flat in
    subst P (sym c.as_slice-2.ensures)
    (shape_low c.args.columns.now c.args.mark c.in_ok-shape.shape c.in_ok-shape.ensures c.args.table.now c.in-Ok.flat c.requires.columns c.requires.with_mark
    (made (goal.at.flat_over-requires-2-clause-low c).In-Ok))

pub keep-requires-clause-made : goal.keep-requires-clause-made
keep-requires-clause-made c =
    let s = c.in_ok-shape.shape in
    kept_here c.args.table.now s.columns.items s.mark c.in_ok-key.key.items c.in-Ok.flat c.in_ok-key.ensures (made (goal.at.keep-requires-clause-made c).In-Ok)

pub returns-clause-lines : goal.returns-clause-lines
returns-clause-lines c =
    let P : FlatTable → Type 0 = λ f. IsMade c.args.columns.now c.args.table.now c.args.mark f in
    subst P (sym (c.in_ok-over.ensures ∙ ap (λ ns. flat_over ns c.in-Ok.flat) c.as_slice-2.ensures))
    (shape_made c.args.columns.now c.args.mark c.in_ok-shape.shape c.in_ok-shape.ensures c.args.table.now c.in-Ok.flat
    (made (goal.at.returns-clause-lines c).In-Ok))
