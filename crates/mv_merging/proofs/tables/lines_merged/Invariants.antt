use Rattle.std.proofs.Common.{◌≡◌, take}
use Rattle.std.specs.List.{flat_map}
use Rattle.mv_merging.specs.Tables.{line_merged}
use Rattle.mv_merging.proofs.tables.lines_merged.Given as goal

abbrev pub invariant-loop-line : goal.invariant-loop-line
invariant-loop-line l = l.all ≡ flat_map (line_merged l.m l.n.0) (take l.line-index l.lines)
