use Rattle.std.proofs.Common.{◌∙◌, sym, ap}
use Rattle.mv_base.specs.Set.{meet, minus}
use Rattle.mv_cover.proofs.ValueClasses.{within_meet, within_minus}
use Rattle.mv_cover.proofs.alike.narrowed.Goals as goal

pub returns-then-has-clause-fewer : goal.returns-then-has-clause-fewer
returns-then-has-clause-fewer c u h = (within_meet c.args.net.0 c.args.value.0 u c.args.set c.meet.result c.args.l.now (c.meet.ensures ∙ ap (meet c.args.set) c.set.ensures) (sym c.has.ensures ∙ c.if-has.true) h).0

pub returns-then-has-clause-same : goal.returns-then-has-clause-same
returns-then-has-clause-same c u h = (within_meet c.args.net.0 c.args.value.0 u c.args.set c.meet.result c.args.l.now (c.meet.ensures ∙ ap (meet c.args.set) c.set.ensures) (sym c.has.ensures ∙ c.if-has.true) h).1

pub returns-else-has-clause-fewer : goal.returns-else-has-clause-fewer
returns-else-has-clause-fewer c u h = (within_minus c.args.net.0 c.args.value.0 u c.args.set c.minus.result c.args.l.now (c.minus.ensures ∙ ap (minus c.args.set) c.set-else-has.ensures) (sym c.has.ensures ∙ c.if-has.false) h).0

pub returns-else-has-clause-same : goal.returns-else-has-clause-same
returns-else-has-clause-same c u h = (within_minus c.args.net.0 c.args.value.0 u c.args.set c.minus.result c.args.l.now (c.minus.ensures ∙ ap (minus c.args.set) c.set-else-has.ensures) (sym c.has.ensures ∙ c.if-has.false) h).1
