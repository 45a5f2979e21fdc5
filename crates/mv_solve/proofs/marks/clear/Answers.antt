use Rattle.std.proofs.Common.{false, inl, inr, arith}
use Rattle.std.proofs.lemmas.Bool.{cases_lt}
use Rattle.std.proofs.lemmas.List.{get_or_past}
use Rattle.mv_solve.proofs.marks.clear.Goals as goal

pub returns : goal.returns
returns c m = elim (cases_lt m c.loop-at.at) [
  | inl less ↦ c.loop-at.invariant.none m less
  | inr more ↦ get_or_past c.loop-at.marks m false (omega (arith, c.loop-at.invariant.long))
]
