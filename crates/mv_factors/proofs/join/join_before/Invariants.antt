use Rattle.mv_factors.specs.Seen.{Joins, KeepsWork}
use Rattle.mv_factors.proofs.join.join_before.Given as goal

abbrev pub invariant-loop-other : goal.invariant-loop-other
invariant-loop-other l = record {
  joins : Joins l.fn.factors l.factors l.fn.work.rows.items l.work.rows.items l.from l.var l.other l.place;
  work : KeepsWork l.fn.work l.work;
}
