use Rattle.std.proofs.Common.{◌≡◌, take, false}
use Rattle.std.specs.List.{list_any}
use Rattle.mv_joint.specs.Looks.{gives_bare}
use Rattle.mv_joint.proofs.marked.some_bare.Given as goal

abbrev pub invariant-loop-row : goal.invariant-loop-row
invariant-loop-row l = list_any (gives_bare l.frame.columns) (take l.row-index l.table.rows) ≡ false
