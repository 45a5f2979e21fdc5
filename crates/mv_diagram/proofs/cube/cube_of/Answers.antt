use Rattle.mv_diagram.proofs.Adding.{parts_none}
use Rattle.mv_diagram.proofs.Cubing.{on_true_is, on_false_is, empty_held, empty_cube}
use Rattle.mv_diagram.proofs.cube.cube_of.Goals as goal

pub cube_from-requires-clause-some : goal.cube_from-requires-clause-some
cube_from-requires-clause-some c = on_true_is c.all_some.result _ c.if-all_some.true c.all_some.ensures.all

pub returns-else-all_some-clause-held : goal.returns-else-all_some-clause-held
returns-else-all_some-clause-held c = empty_held c.args.table.now.pool.places

pub returns-else-all_some-clause-set : goal.returns-else-all_some-clause-set
returns-else-all_some-clause-set c p range = empty_cube c.args.table.now.counts.items c.args.table.now.pool.places c.args.literals.now p (on_false_is c.all_some.result _ c.if-all_some.false c.all_some.ensures.none p range)

pub returns-else-all_some-clause-added : goal.returns-else-all_some-clause-added
returns-else-all_some-clause-added c = parts_none c.args.table.now.counts.items c.args.table.now.pool.places _
