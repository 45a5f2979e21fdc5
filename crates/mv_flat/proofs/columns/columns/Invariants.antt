use Rattle.std.proofs.Common.{◌≡◌, List, map, take}
use Rattle.mv_design.specs.declared.design.Decl.{Decl}
use Rattle.mv_flat.specs.Gathered.{counts_of}
use Rattle.mv_flat.specs.Numbers.{column_of}
use Rattle.mv_flat.proofs.columns.columns.Given as goal

-- whatever declarations give these counts, the columns are those that they give
abbrev pub invariant-loop-net : goal.invariant-loop-net
invariant-loop-net l = (ds : List Decl) → l.counts ≡ counts_of ds l.names → l.columns.items ≡ map (column_of ds l.names) (take l.net-index l.net-items)
