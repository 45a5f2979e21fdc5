-- The names so far may be those of new nets.
use Rattle.std.proofs.Common.{take, All}
use Rattle.mv_plans.specs.Checks.{IsNewName}
use Rattle.mv_plans.proofs.fresh.all_new.Given as goal

abbrev pub invariant-loop-name : goal.invariant-loop-name
invariant-loop-name l = All (IsNewName l.net.nets) (take l.name-index l.names)
