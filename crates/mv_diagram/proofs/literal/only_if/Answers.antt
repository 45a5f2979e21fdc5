use Rattle.mv_diagram.proofs.Cubing.{empty_held, empty_last, empty_set, whole_set}
use Rattle.mv_diagram.proofs.literal.only_if.Goals as goal

pub returns-then-inside-clause-set : goal.returns-then-inside-clause-set
returns-then-inside-clause-set c p = whole_set c.args.inside _ c.if-inside.true

pub returns-else-inside-clause-held : goal.returns-else-inside-clause-held
returns-else-inside-clause-held c = empty_held c.args.table.now.pool.places

pub returns-else-inside-clause-later : goal.returns-else-inside-clause-later
returns-else-inside-clause-later c = empty_last c.args.table.now.counts.items c.args.table.now.pool.places c.requires.sound c.args.d.0

pub returns-else-inside-clause-set : goal.returns-else-inside-clause-set
returns-else-inside-clause-set c p = empty_set c.args.table.now.counts.items c.args.table.now.pool.places c.args.inside _ c.if-inside.false p
