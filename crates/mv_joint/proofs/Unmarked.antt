-- A table of one output that needs no mark has a cover alone.
use Rattle.std.proofs.Common.{◌≡◌, false, Option, None, List, ◌∙◌, ap, subst}
use Rattle.mv_base.specs.declared.number.NetId.{NetId}
use Rattle.mv_base.proofs.Lists.{none_from}
use Rattle.mv_cover.specs.declared.cover.Cover.{Cover}
use Rattle.mv_design.specs.declared.table.FileTable.{FileTable}
use Rattle.mv_rows.specs.declared.column.Column.{Column}
use Rattle.mv_rows.specs.declared.table.FlatTable.{FlatTable}
use Rattle.mv_rows.specs.Cubes.{AreColumns}
use Rattle.mv_rows.specs.Flat.{IsTable, IsMade}
use Rattle.mv_rows.specs.Marked.{is_marked}
use Rattle.mv_rows.proofs.Marked.{marked_exactly}
use Rattle.mv_joint.specs.Joint.{IsCoverOf}

pub cover_unmarked : (cs : List Column) (t : FileTable) (mark : NetId) (flat : FlatTable) → AreColumns cs → IsTable cs t → is_marked cs t ≡ false → IsMade cs t mark flat → IsCoverOf cs t mark flat.cover
cover_unmarked cs t mark flat columns table unmarked made =
    let none : flat.mark ≡ None = none_from flat.mark (marked_exactly cs t mark flat columns table made ∙ unmarked) in
    let whole : Option Cover → FlatTable = λ m. record { cover = flat.cover; mark = m } in
    subst (IsMade cs t mark) (ap whole none) made
