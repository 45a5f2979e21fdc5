use Rattle.mv_factors.specs.Seen.{KeepsWork, Puts}
use Rattle.mv_factors.proofs.join.put_into_each.Given as goal

abbrev pub invariant-loop-place : goal.invariant-loop-place
invariant-loop-place l = record {
  puts : Puts l.fn.factors l.factors l.fn.work.rows.items l.work.rows.items l.from l.var l.place l.given;
  work : KeepsWork l.fn.work l.work;
}
