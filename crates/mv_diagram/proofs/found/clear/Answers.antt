use Rattle.std.proofs.Common.{false, inl, inr, arith}
use Rattle.std.proofs.lemmas.Bool.{cases_lt}
use Rattle.std.proofs.lemmas.List.{get_or_past}
use Rattle.mv_diagram.proofs.found.clear.Goals as goal

pub returns-clause-none : goal.returns-clause-none
returns-clause-none c v = elim (cases_lt v c.loop-var.var) [
  | inl less ↦ c.loop-var.invariant.none v less
  | inr more ↦ get_or_past c.loop-var.seen v false (omega (arith, c.loop-var.invariant.long))
]
