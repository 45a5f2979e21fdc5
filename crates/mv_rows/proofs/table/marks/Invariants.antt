use Rattle.std.proofs.Common.{◌≡◌, [], map, take}
use Rattle.indexmap.specs.IndexSet.{insert_all}
use Rattle.mv_cover.specs.Equal.{line_eq}
use Rattle.mv_rows.specs.Flat.{mark_line}
use Rattle.mv_rows.proofs.table.marks.Given as goal

abbrev pub invariant-loop-line : goal.invariant-loop-line
invariant-loop-line l = l.marked.keys ≡ insert_all line_eq [] (map mark_line (take l.line-index l.lines))
