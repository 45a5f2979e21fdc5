-- The literals of a composite are those of the composed table.
use Rattle.mv_plans.proofs.CompositeLiterals.{counted_is}
use Rattle.mv_rules.proofs.laws.composite_laws.Goals as goal

pub returns-clause-counted : goal.returns-clause-counted
returns-clause-counted c = counted_is
