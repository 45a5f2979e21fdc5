-- The lines of the set are those of the rows of each table that has them.
use Rattle.std.proofs.Common.{◌≡◌, ℕ, Option, List, sym, subst}
use Rattle.std.proofs.lemmas.Result.{IfOk-weaker}
use Rattle.mv_base.specs.declared.number.NetId.{NetId}
use Rattle.mv_cover.specs.declared.line.Line.{Line}
use Rattle.mv_design.specs.declared.table.Entry.{Entry}
use Rattle.mv_design.specs.declared.table.FileTable.{FileTable}
use Rattle.mv_rows.specs.declared.column.Column.{Column}
use Rattle.mv_rows.specs.declared.line_set.LineSet.{LineSet}
use Rattle.mv_rows.specs.declared.table.FlatTable.{FlatTable}
use Rattle.mv_rows.specs.Flat.{default_left, FlatOf, IsMade}
use Rattle.mv_rows.specs.Once.{AreDistinct}
use Rattle.mv_rows.proofs.Alike.{table_made, lines_distinct}
use Rattle.mv_rows.proofs.table.flat_table_of.Goals as goal

-- what is promised of the covers
abbrev By : List Column → NetId → Option (List Entry) → LineSet → FlatTable → Type 0
By cs mark default d flat = (t : FileTable) → (most : ℕ) → t.default ≡ default → AreDistinct cs t.rows most d → IsMade cs t mark flat

set_made : (cs : List Column) (mark : NetId) (default : Option (List Entry)) (list : List Line) (d : LineSet) (flat : FlatTable) → list ≡ d.lines.keys
    → FlatOf cs mark list (default_left default list) flat → By cs mark default d flat
set_made cs mark default list d flat e is t most same are =
    table_made cs t mark list flat (lines_distinct cs t.rows most d list are e)
    (subst (λ o. FlatOf cs mark list (default_left o list) flat) (sym same) is)

pub returns : goal.returns
returns c =
    let cs = c.args.columns.now in
    let default = c.args.default.now in
    let list = c.in_ok-list.list.items in
    IfOk-weaker c.covered.result (λ flat. FlatOf cs c.args.mark list (default_left default list) flat) (By cs c.args.mark default c.args.set)
    (λ flat is. set_made cs c.args.mark default list c.args.set flat c.in_ok-list.ensures is)
    c.covered.ensures
