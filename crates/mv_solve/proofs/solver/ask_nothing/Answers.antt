use Rattle.std.proofs.Common.{inl, inr, arith}
use Rattle.std.proofs.lemmas.Bool.{cases_lt}
use Rattle.std.proofs.lemmas.List.{get_or_past}
use Rattle.mv_solve.specs.declared.asked.Asked.TheVariants.{Anything}
use Rattle.mv_solve.proofs.solver.ask_nothing.Goals as goal

pub returns : goal.returns
returns c n = elim (cases_lt n c.loop-at.at) [
  | inl less ↦ c.loop-at.invariant.none n less
  | inr more ↦ get_or_past c.loop-at.asked n Anything (omega (arith, c.loop-at.invariant.long))
]
