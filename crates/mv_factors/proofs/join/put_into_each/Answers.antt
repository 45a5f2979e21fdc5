use Rattle.std.proofs.Common.{◌≡◌, length, subst, arith}
use Rattle.mv_factors.specs.Seen.{Puts}
use Rattle.mv_factors.proofs.Joining.{function_along, goes_then, puts_more, puts_start, rows_then}
use Rattle.mv_factors.proofs.Sighting.{work_self, work_then}
use Rattle.mv_factors.proofs.join.put_into_each.Goals as goal

pub loop-place-init : goal.loop-place-init
loop-place-init c = record {
  puts = puts_start c.args.factors.now c.args.work.now.rows.items c.args.from c.args.var c.args.given;
  work = work_self c.args.work.now;
}

pub put_if-requires-clause-function : goal.put_if-requires-clause-function
put_if-requires-clause-function c =
    function_along c.args.factors.now c.loop-place.factors c.args.given c.args.var c.loop-place.invariant.puts.stays c.requires.function

pub put_if-requires-clause-rows : goal.put_if-requires-clause-rows
put_if-requires-clause-rows c = rows_then _ _ _ _ c.loop-place.invariant.puts.goes.sees c.requires.rows

pub put_if-requires-clause-seen : goal.put_if-requires-clause-seen
put_if-requires-clause-seen c = c.loop-place.invariant.puts.goes.sees.seen c.args.from c.requires.seen

pub loop-place-preserved : goal.loop-place-preserved
loop-place-preserved c = record {
  puts = puts_more _ _ _ _ _ _ _ _ _ _ c.loop-place.invariant.puts c.in-Ok.ensures.ok;
  work = work_then _ _ _ c.loop-place.invariant.work c.put_if.ensures.work;
}

pub returns-in-Err-clause-err : goal.returns-in-Err-clause-err
returns-in-Err-clause-err c =
    goes_then _ _ _ _ _ _ _ _ c.loop-place.invariant.puts.goes c.in-Err.ensures.err

pub returns-clause-ok : goal.returns-clause-ok
returns-clause-ok c =
    let e : c.loop-place.place ≡ length c.args.factors.now.list = omega arith in
    let rows = c.args.work.now.rows.items in
    subst (λ n. Puts c.args.factors.now c.loop-place.factors rows c.loop-place.work.rows.items c.args.from c.args.var n c.args.given)
    e c.loop-place.invariant.puts
