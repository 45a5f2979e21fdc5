use Rattle.std.proofs.Common.{◌≡◌, subst, arith}
use Rattle.mv_factors.specs.Seen.{Joins}
use Rattle.mv_factors.proofs.Joining.{goes_then, joins_more, joins_start, rows_then}
use Rattle.mv_factors.proofs.Sighting.{work_self, work_then}
use Rattle.mv_factors.proofs.join.join_before.Goals as goal

pub loop-other-init : goal.loop-other-init
loop-other-init c = record {
  joins = joins_start c.args.factors.now c.args.work.now.rows.items c.args.from c.args.var c.args.place;
  work = work_self c.args.work.now;
}

pub join_if-requires-clause-rows : goal.join_if-requires-clause-rows
join_if-requires-clause-rows c = rows_then _ _ _ _ c.loop-other.invariant.joins.goes.sees c.requires.rows

pub join_if-requires-clause-seen : goal.join_if-requires-clause-seen
join_if-requires-clause-seen c = c.loop-other.invariant.joins.goes.sees.seen c.args.from c.requires.seen

pub loop-other-preserved : goal.loop-other-preserved
loop-other-preserved c = record {
  joins = joins_more _ _ _ _ _ _ _ _ _ _ c.loop-other.invariant.joins c.in-Ok.ensures.ok;
  work = work_then _ _ _ c.loop-other.invariant.work c.join_if.ensures.work;
}

pub returns-in-Err-clause-err : goal.returns-in-Err-clause-err
returns-in-Err-clause-err c =
    goes_then _ _ _ _ _ _ _ _ c.loop-other.invariant.joins.goes c.in-Err.ensures.err

pub returns-clause-ok : goal.returns-clause-ok
returns-clause-ok c =
    let e : c.loop-other.other ≡ c.args.last = omega arith in
    let rows = c.args.work.now.rows.items in
    subst (λ n. Joins c.args.factors.now c.loop-other.factors rows c.loop-other.work.rows.items c.args.from c.args.var n c.args.place)
    e c.loop-other.invariant.joins
