-- The literals that the rule leaves; it applies where each composite has its literals, and fails where one is too wide.
use Rattle.mv_plans.proofs.CompositeLiterals.{counted_collapses, wide_collapse_fails}
use Rattle.mv_rules.proofs.Left.{left_counted}
use Rattle.mv_rules.proofs.laws.collapse_laws.Goals as goal

pub returns-clause-left : goal.returns-clause-left
returns-clause-left c = left_counted

pub returns-clause-applies : goal.returns-clause-applies
returns-clause-applies c = counted_collapses

pub returns-clause-fails : goal.returns-clause-fails
returns-clause-fails c = wide_collapse_fails
