use Rattle.std.proofs.Common.{◌≡◌, [], filter}
use Rattle.indexmap.specs.IndexSet.{insert_all}
use Rattle.mv_cover.specs.Equal.{line_eq}
use Rattle.mv_rows.specs.Flat.{has_output}
use Rattle.mv_rows.proofs.table.kept_of_few.Given as goal

abbrev pub invariant-loop-line : goal.invariant-loop-line
invariant-loop-line l = l.distinct ≡ insert_all line_eq [] (filter has_output l.yielded)
