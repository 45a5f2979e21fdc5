use Rattle.std.proofs.Common.{ap, length, refl}
use Rattle.std.proofs.lemmas.Bool.{OnTrue_at}
use Rattle.mv_factors.specs.Families.{everywhere, only}
use Rattle.mv_factors.proofs.Joining.{function_along, goes_after, rows_then}
use Rattle.mv_factors.proofs.Keeping.{Keeps-fewer, on_err, on_ok}
use Rattle.mv_factors.proofs.Sighting.{sees_same}
use Rattle.mv_factors.proofs.elimination.eliminate_one.Goals as goal

pub put_away-requires-clause-function : goal.put_away-requires-clause-function
put_away-requires-clause-function c =
    function_along c.args.factors.now c.gives.new.self c.in-Some.given c.args.one.var
    (Keeps-fewer _ _ everywhere (only c.in-Some.given) (λ k is. refl) c.gives.ensures.keeps)
    (OnTrue_at c.if-gives.true c.gives.ensures.function)

pub put_away-requires-clause-rows : goal.put_away-requires-clause-rows
put_away-requires-clause-rows c =
    rows_then _ _ _ _ (sees_same _ _ c.args.work.now.rows.items c.gives.ensures.keeps (ap length c.gives.ensures.list)) c.requires.rows

pub put_away-requires-clause-seen : goal.put_away-requires-clause-seen
put_away-requires-clause-seen c =
    (sees_same _ _ c.args.work.now.rows.items c.gives.ensures.keeps (ap length c.gives.ensures.list)).seen c.args.from c.requires.seen

pub join_all-requires-else-gives-clause-rows : goal.join_all-requires-else-gives-clause-rows
join_all-requires-else-gives-clause-rows c =
    rows_then _ _ _ _ (sees_same _ _ c.args.work.now.rows.items c.gives.ensures.keeps (ap length c.gives.ensures.list)) c.requires.rows

pub join_all-requires-else-gives-clause-seen : goal.join_all-requires-else-gives-clause-seen
join_all-requires-else-gives-clause-seen c =
    (sees_same _ _ c.args.work.now.rows.items c.gives.ensures.keeps (ap length c.gives.ensures.list)).seen c.args.from c.requires.seen

pub returns-then-gives-clause-ok : goal.returns-then-gives-clause-ok
returns-then-gives-clause-ok c =
    on_ok c.put_away.result _ _
    (λ goes. goes_after _ _ _ _ _ c.args.from _ c.gives.ensures.keeps (ap length c.gives.ensures.list) goes)
    c.put_away.ensures.ok

pub returns-then-gives-clause-err : goal.returns-then-gives-clause-err
returns-then-gives-clause-err c =
    on_err c.put_away.result _ _
    (λ goes. goes_after _ _ _ _ _ c.args.from _ c.gives.ensures.keeps (ap length c.gives.ensures.list) goes)
    c.put_away.ensures.err

pub returns-else-gives-clause-ok : goal.returns-else-gives-clause-ok
returns-else-gives-clause-ok c =
    on_ok c.join_all-else-gives.result _ _
    (λ goes. goes_after _ _ _ _ _ c.args.from _ c.gives.ensures.keeps (ap length c.gives.ensures.list) goes)
    c.join_all-else-gives.ensures.ok

pub returns-else-gives-clause-err : goal.returns-else-gives-clause-err
returns-else-gives-clause-err c =
    on_err c.join_all-else-gives.result _ _
    (λ goes. goes_after _ _ _ _ _ c.args.from _ c.gives.ensures.keeps (ap length c.gives.ensures.list) goes)
    c.join_all-else-gives.ensures.err
