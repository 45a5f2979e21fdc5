use Rattle.std.proofs.Common.{take, All}
use Rattle.mv_gains.specs.Tables.{HasAllOf}
use Rattle.mv_gains.proofs.tables.literals_of.Given as goal

abbrev pub invariant-loop-line : goal.invariant-loop-line
invariant-loop-line l = All (HasAllOf l.found.keys) (take l.line-index l.lines)
