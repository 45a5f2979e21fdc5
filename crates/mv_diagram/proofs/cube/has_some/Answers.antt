use Rattle.std.proofs.Common.{refl}
use Rattle.mv_pool.proofs.Walking.{read_any}
use Rattle.mv_diagram.proofs.Cubing.{some_of, none_of, none_empty}
use Rattle.mv_diagram.proofs.cube.has_some.Goals as goal

pub returns-in-Some-clause-some : goal.returns-in-Some-clause-some
returns-in-Some-clause-some c =
    some_of c.args.table.now.counts.items c.args.literal.now.var c.args.literal.now.set c.in-Some.least.0 c.index.result.now (read_any c.args.table.now.counts.items c.args.literal.now.var c.index.result.now 0 c.requires c.index.ensures) c.in-Some.ensures.some

pub returns-in-Some-clause-none : goal.returns-in-Some-clause-none
returns-in-Some-clause-none c =
    none_of c.args.table.now.counts.items c.args.literal.now.var c.args.literal.now.set c.in-Some.least.0 c.index.result.now (read_any c.args.table.now.counts.items c.args.literal.now.var c.index.result.now 0 c.requires c.index.ensures) c.in-Some.ensures.least

pub returns-in-None-clause-none : goal.returns-in-None-clause-none
returns-in-None-clause-none c = none_empty c.args.table.now.counts.items c.args.literal.now.var c.args.literal.now.set (c.in-None.ensures.none.0 refl)
