use Rattle.std.proofs.Common.{◌≡◌, [], take}
use Rattle.indexmap.specs.IndexSet.{insert_all}
use Rattle.mv_cover.specs.Equal.{line_eq}
use Rattle.mv_composite.proofs.picked.line_set.Given as goal

abbrev pub invariant-loop-line : goal.invariant-loop-line
invariant-loop-line l = l.set.keys ≡ insert_all line_eq [] (take l.line-index l.lines)
