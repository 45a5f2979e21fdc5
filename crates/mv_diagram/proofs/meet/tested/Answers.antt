use Rattle.std.proofs.Common.{sym}
use Rattle.mv_diagram.proofs.Points.{rest_later}
use Rattle.mv_diagram.proofs.Meeting.{end_later}
use Rattle.mv_diagram.proofs.meet.tested.Goals as goal

pub returns-then-first-var-clause-some : goal.returns-then-first-var-clause-some
returns-then-first-var-clause-some c = record { at = sym c.in-Some.ensures; variable = c.if-first-var.true }

pub returns-else-first-var-clause-none : goal.returns-else-first-var-clause-none
returns-else-first-var-clause-none c = rest_later c.args.table.now.counts.items c.args.table.now.pool.places c.requires.sound c.args.d.0 c.args.var c.in-Some.first (sym c.in-Some.ensures) c.if-first-var.false c.requires.later

pub returns-in-None-clause-none : goal.returns-in-None-clause-none
returns-in-None-clause-none c = end_later c.args.table.now.counts.items c.args.table.now.pool.places c.args.d.0 c.args.var (sym c.in-None.ensures) c.requires.variable
