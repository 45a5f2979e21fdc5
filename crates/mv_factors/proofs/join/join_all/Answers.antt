use Rattle.std.proofs.Common.{subst}
use Rattle.mv_factors.specs.Seen.{IsAlone, IsLast, IsNowhere}
use Rattle.mv_factors.proofs.Joining.{alone_free, goes_nowhere, goes_then, joins_free, rows_then}
use Rattle.mv_factors.proofs.Keeping.{on_err, on_ok}
use Rattle.mv_factors.proofs.join.join_all.Goals as goal

pub returns-in_default-clause-ok : goal.returns-in_default-clause-ok
returns-in_default-clause-ok c =
    goes_nowhere _ _ _ _ c.requires.seen
    (subst (λ n. IsNowhere c.args.work.now.rows.items c.args.from n c.args.var) c.len-count.ensures c.in_default.ensures.none)

pub leave_out_alone-requires-clause-free : goal.leave_out_alone-requires-clause-free
leave_out_alone-requires-clause-free c =
    alone_free _ _ _ _ _ c.requires.seen
    (subst (λ n. IsAlone c.args.work.now.rows.items c.args.from n c.args.var c.in-Some.place) c.len-count.ensures
    c.in_default-last_other.ensures.none)

pub leave_out_two-requires-clause-rows : goal.leave_out_two-requires-clause-rows
leave_out_two-requires-clause-rows c = rows_then _ _ _ _ c.in-Ok.ensures.ok.goes.sees c.requires.rows

pub leave_out_two-requires-clause-free : goal.leave_out_two-requires-clause-free
leave_out_two-requires-clause-free c =
    let rows = c.args.work.now.rows.items in
    let place = c.in-Some.place in
    let last = c.in-Some-last_other.last in
    joins_free _ _ c.join_before.new.factors _ _ c.join_before.new.work.rows.items _ _ place last c.in-Ok.ensures.ok c.requires.seen
    (subst (λ n. IsLast rows c.args.from n c.args.var place last) c.len-count.ensures c.in-Some-last_other.ensures.some)

pub returns-clause-ok : goal.returns-clause-ok
returns-clause-ok c =
    on_ok c.leave_out_two.result _ _
    (λ goes. goes_then _ _ _ _ _ _ c.args.from _ c.in-Ok.ensures.ok.goes goes)
    c.leave_out_two.ensures.ok

pub returns-clause-err : goal.returns-clause-err
returns-clause-err c =
    on_err c.leave_out_two.result _ _
    (λ goes. goes_then _ _ _ _ _ _ c.args.from _ c.in-Ok.ensures.ok.goes goes)
    c.leave_out_two.ensures.err
