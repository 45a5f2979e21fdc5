use Rattle.std.proofs.Common.{◌≡◌, take}
use Rattle.std.specs.List.{flat_map}
use Rattle.mv_merging.specs.Tables.{literal_merged}
use Rattle.mv_merging.proofs.tables.cube_merged.Given as goal

abbrev pub invariant-loop-l : goal.invariant-loop-l
invariant-loop-l l = l.all ≡ flat_map (literal_merged l.m l.n.0) (take l.l-index l.lits)
