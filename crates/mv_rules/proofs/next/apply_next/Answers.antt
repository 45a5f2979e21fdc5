-- The narrowed table was total, so what was known stays right.
use Rattle.mv_rules.proofs.Partials.{known_after}
use Rattle.mv_rules.proofs.next.apply_next.Goals as goal

pub returns-then-stays-clause-right : goal.returns-then-stays-clause-right
returns-then-stays-clause-right c =
    known_after c.args.terms.free c.in-Narrow.name c.in-Narrow.d c.in-Narrow.u c.in-Narrow.body c.args.net.now c.apply_known.new.net c.in-Ok.partial c.well_formed-2.ensures
    (rw c.in-Narrow.is at c.in-Ok-apply_known.ensures.applies) (c.is_total_from-stays.ensures c.if-stays.true) c.in-Ok.ensures
