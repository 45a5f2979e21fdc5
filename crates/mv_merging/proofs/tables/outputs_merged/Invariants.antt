use Rattle.std.proofs.Common.{◌≡◌, take, map}
use Rattle.mv_merging.specs.Tables.{output_merged}
use Rattle.mv_merging.proofs.tables.outputs_merged.Given as goal

abbrev pub invariant-loop-line : goal.invariant-loop-line
invariant-loop-line l = l.all ≡ map (output_merged l.m) (take l.line-index l.lines)
